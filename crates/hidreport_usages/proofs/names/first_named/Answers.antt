use Rattle.std.proofs.Common.{◌≡◌, ◌≢◌, ◌<◌, Some, length, slice_index, sym, ap, subst, ◌∙◌, arith}
use Rattle.std.proofs.lemmas.Slice.Eq.{bytes_eq-Decides}
use mathlib.Core.Bool.{false≢true}
use Rattle.hidreport_usages.specs.Rows.{name_in, row_at, IsFirstNamed}
use Rattle.hidreport_usages.proofs.LookupLemmas.{numbers_of, number_at, none_left, first_found, none_found}
use Rattle.hidreport_usages.specs.Packed.{Rises}
use Rattle.hidreport_usages.proofs.names.first_named.Goals as goal

-- all rows stand before the name
pub returns-then-rank-places : goal.returns-then-rank-places
returns-then-rank-places g c =
    none_left g.T.NameTable.rows c.places_by_name-places.result.now c.places_by_name-places.ensures c.args.name.now c.args.from c.rank_of-rank.result c.rank_of-rank.ensures c.if-rank-places.true

-- the row at the rank has the name
pub returns-then-eq : goal.returns-then-eq
returns-then-eq g c =
    let rows = g.T.NameTable.rows in
    let places = c.places_by_name-places.result.now in
    let stands = c.places_by_name-places.ensures in
    let rank = c.rank_of-rank.result in
    let inside : rank < length places = grind (arith, c.rank_of-rank.ensures.within, c.if-rank-places.false) in
    let name = c.args.name.now in
    let at = c.from-place.ensures in
    let same : (row_at rows (slice_index places rank)).1 ≡ name =
    ap (λ p. (row_at rows p).1) (sym at) ∙ sym c.name_at.ensures ∙ (bytes_eq-Decides c.name_at.result.now name).0 (sym c.eq.ensures ∙ c.if-eq.true) in
    let rising : Rises (numbers_of rows) = subst Rises c.numbers.ensures.all c.numbers.ensures.rising in
    let read : (row_at rows (slice_index places rank)).0 ≡ slice_index c.numbers.result.now c.from-place.result =
    sym (number_at rows (slice_index places rank) (stands.within rank inside))
    ∙ ap (slice_index (numbers_of rows)) (sym at) ∙ ap (λ ns. slice_index ns c.from-place.result) (sym c.numbers.ensures.all) in
    subst (λ n. IsFirstNamed (name_in rows) name c.args.from (Some n)) read
    (first_found rows places stands name c.args.from rank c.rank_of-rank.ensures rising inside same)

-- it has another
pub returns-else-eq : goal.returns-else-eq
returns-else-eq g c =
    let rows = g.T.NameTable.rows in
    let places = c.places_by_name-places.result.now in
    let rank = c.rank_of-rank.result in
    let inside : rank < length places = grind (arith, c.rank_of-rank.ensures.within, c.if-rank-places.false) in
    let name = c.args.name.now in
    let other : (row_at rows (slice_index places rank)).1 ≢ name = λ same.
    let text : c.name_at.result.now ≡ name = c.name_at.ensures ∙ ap (λ p. (row_at rows p).1) c.from-place.ensures ∙ same in
    false≢true (sym c.if-eq.false ∙ c.eq.ensures ∙ (bytes_eq-Decides c.name_at.result.now name).1 text) in
    none_found rows places c.places_by_name-places.ensures name c.args.from rank c.rank_of-rank.ensures inside other
