-- A repair is fixed by its changes: what they name stood there, and all else stands as it stood.
use Rattle.std.proofs.Common.{◌≡◌, ℕ, ◌+◌, ◌-◌, ◌≤◌, List, [], ◌∷◌, ◌++◌, length, take, drop}
use Rattle.std.proofs.Common.{flat_map, filter_map, Option, None, Some, refl, sym, ap, ◌∙◌, subst}
use Rattle.std.proofs.Common.{arith, append_assoc}
use Rattle.std.specs.Prelude.{option_map}
use Rattle.std.specs.List.{cons_option}
use Rattle.std.proofs.Math.Seq.{drop-append-add, drop-append_seam, take-append-add}
use Rattle.std.proofs.Math.Seq.{take-append_seam}
use Rattle.hidreport_lists.specs.declared.mending.Reason.{Reason}
use Rattle.hidreport.specs.Mending.{PieceRecord}
use Rattle.hidreport.specs.Repair.{ChangeRecord, RepairedRecord, change_in, change_of, joined}
use Rattle.hidreport.specs.RepairLaws.{AreInPlace, IsOneItem, IsRepairOf, StandsAsItStood}
use Rattle.hidreport.specs.RepairLaws.{StoodAsOne}
use Rattle.hidreport.specs.Tiling.{Each}

-- the bytes from an offset on, with these changes made
abbrev pub changed : ℕ → List ℕ → List ChangeRecord → List ℕ
changed offset bytes [] = bytes
changed offset bytes (c ∷ cs) = take (c.offset - offset) bytes ++ (c.stands
    ++ changed (c.offset + length c.stood)
    (drop (c.offset + length c.stood - offset) bytes) cs)

-- the changes name what stood in these bytes
abbrev pub Stood : ℕ → List ℕ → List ChangeRecord → Type 0
Stood offset bytes [] = Unit {0}
Stood offset bytes (c ∷ cs) =
    (take (length c.stood) (drop (c.offset - offset) bytes) ≡ c.stood)
    × Stood (c.offset + length c.stood) (drop (c.offset + length c.stood - offset) bytes) cs

abbrev pub StartsBehind : ℕ → List ChangeRecord → Type 0
StartsBehind offset [] = Unit {0}
StartsBehind offset (c ∷ cs) = offset ≤ c.offset

-- the changes are made in these bytes, which stand at the offset, and others are written
pub record AreMade (offset : ℕ) (bytes others : List ℕ) (changes : List ChangeRecord) : Type 0 where
  pub behind : StartsBehind offset changes
  pub stood : Stood offset bytes changes
  pub written : others ≡ changed offset bytes changes

-- bytes in front that stand as they stood
in-front : (offset : ℕ) (xs rest others : List ℕ) (changes : List ChangeRecord)
    → AreMade (offset + length xs) rest others changes
    → AreMade offset (xs ++ rest) (xs ++ others) changes
in-front offset xs rest others [] made =
    record { behind = tt; stood = tt; written = ap (λ l. xs ++ l) made.written }
in-front offset xs rest others (c ∷ cs) made =
    let le : offset + length xs ≤ c.offset = made.behind in
    let end = c.offset + length c.stood in
    let skipped = c.offset - (offset + length xs) in
    let gone = end - (offset + length xs) in
    let first : c.offset - offset ≡ length xs + skipped = omega (arith, le) in
    let last : end - offset ≡ length xs + gone = omega (arith, le) in
    let there : drop (c.offset - offset) (xs ++ rest) ≡ drop skipped rest =
    ap (λ n. drop n (xs ++ rest)) first ∙ drop-append-add xs rest skipped in
    let later : drop (end - offset) (xs ++ rest) ≡ drop gone rest =
    ap (λ n. drop n (xs ++ rest)) last ∙ drop-append-add xs rest gone in
    let front : take (c.offset - offset) (xs ++ rest) ≡ xs ++ take skipped rest =
    ap (λ n. take n (xs ++ rest)) first ∙ take-append-add xs rest skipped in
    record {
      behind = omega (arith, le);
      stood = (
        ap (take (length c.stood)) there ∙ made.stood.0,
        subst (λ l. Stood end l cs) (sym later) made.stood.1,
      );
      written = ap (λ l. xs ++ l) made.written
          ∙ sym (append_assoc xs (take skipped rest) (c.stands ++ changed end (drop gone rest) cs))
          ∙ ap (λ l. l ++ (c.stands ++ changed end (drop gone rest) cs)) (sym front)
          ∙ ap (λ l. take (c.offset - offset) (xs ++ rest) ++ (c.stands ++ changed end l cs))
          (sym later);
    }

-- bytes in front that are changed
named-in-front : (c : ChangeRecord) (rest others : List ℕ) (cs : List ChangeRecord)
    → AreMade (c.offset + length c.stood) rest others cs
    → AreMade c.offset (c.stood ++ rest) (c.stands ++ others) (c ∷ cs)
named-in-front c rest others cs made =
    let end = c.offset + length c.stood in
    let none : c.offset - c.offset ≡ 0 = omega arith in
    let size : end - c.offset ≡ length c.stood = omega arith in
    let later : drop (end - c.offset) (c.stood ++ rest) ≡ rest =
    ap (λ n. drop n (c.stood ++ rest)) size ∙ drop-append_seam c.stood rest in
    record {
      behind = omega arith;
      stood = (
        ap (λ n. take (length c.stood) (drop n (c.stood ++ rest))) none
            ∙ take-append_seam c.stood rest,
        subst (λ l. Stood end l cs) (sym later) made.stood,
      );
      written = ap (λ l. c.stands ++ l) (made.written ∙ ap (λ l. changed end l cs) (sym later))
          ∙ ap (λ n. take n (c.stood ++ rest) ++ (c.stands
          ++ changed end (drop (end - c.offset) (c.stood ++ rest)) cs)) (sym none);
    }

abbrev stood_in : List PieceRecord → List ℕ
stood_in ps = flat_map (λ p. p.stood) ps

abbrev changes_in : List PieceRecord → List ChangeRecord
changes_in ps = filter_map change_in ps

all-made : (offset : ℕ) (ps : List PieceRecord) → AreInPlace offset ps → Each StandsAsItStood ps
    → AreMade offset (stood_in ps) (joined ps) (changes_in ps)
all-made offset [] places same = record { behind = tt; stood = tt; written = refl }
all-made offset (p ∷ ps) places same =
    by-reason p.reason refl (all-made (offset + length p.stood) ps places.1 same.1)
  where
    by-reason : (m : Option Reason) → p.reason ≡ m
        → AreMade (offset + length p.stood) (stood_in ps) (joined ps) (changes_in ps)
        → AreMade offset (stood_in (p ∷ ps)) (joined (p ∷ ps)) (changes_in (p ∷ ps))
    by-reason None e rest =
        let named : changes_in (p ∷ ps) ≡ changes_in ps =
        ap (λ m. cons_option (option_map (λ why. change_of why p) m) (changes_in ps)) e in
        subst (AreMade offset (stood_in (p ∷ ps)) (joined (p ∷ ps))) (sym named)
        (subst (λ l. AreMade offset (stood_in (p ∷ ps)) (l ++ joined ps) (changes_in ps))
        (sym (same.0 e))
        (in-front offset p.stood (stood_in ps) (joined ps) (changes_in ps) rest))
    by-reason (Some why) e rest =
        let named : changes_in (p ∷ ps) ≡ change_of why p ∷ changes_in ps =
        ap (λ m. cons_option (option_map (λ why. change_of why p) m) (changes_in ps)) e in
        subst (AreMade offset (stood_in (p ∷ ps)) (joined (p ∷ ps))) (sym named)
        (subst (λ n. AreMade n (stood_in (p ∷ ps)) (joined (p ∷ ps))
        (change_of why p ∷ changes_in ps)) places.0
        (named-in-front (change_of why p) (stood_in ps) (joined ps) (changes_in ps)
        (subst (λ n. AreMade (n + length p.stood) (stood_in ps) (joined ps) (changes_in ps))
        (sym places.0) rest)))

pub repair-made : (bytes : List ℕ) (r : RepairedRecord) → IsRepairOf bytes r
    → AreMade 0 bytes r.bytes r.changes
repair-made bytes r is =
    subst (λ l. AreMade 0 l r.bytes r.changes) is.whole
    (subst (λ l. AreMade 0 (stood_in is.pieces) l r.changes) is.written
    (subst (AreMade 0 (stood_in is.pieces) (joined is.pieces)) is.changes
    (all-made 0 is.pieces is.places is.same)))

-- and each of them is of one item
one-each : (ps : List PieceRecord) → Each StoodAsOne ps
    → Each (λ (c : ChangeRecord). IsOneItem c.stood) (changes_in ps)
one-each [] one = tt
one-each (p ∷ ps) one = by-reason p.reason refl (one-each ps one.1)
  where
    by-reason : (m : Option Reason) → p.reason ≡ m
        → Each (λ (c : ChangeRecord). IsOneItem c.stood) (changes_in ps)
        → Each (λ (c : ChangeRecord). IsOneItem c.stood) (changes_in (p ∷ ps))
    by-reason None e rest =
        let named : changes_in (p ∷ ps) ≡ changes_in ps =
        ap (λ m. cons_option (option_map (λ why. change_of why p) m) (changes_in ps)) e in
        subst (λ l. Each (λ (c : ChangeRecord). IsOneItem c.stood) l) (sym named) rest
    by-reason (Some why) e rest =
        let named : changes_in (p ∷ ps) ≡ change_of why p ∷ changes_in ps =
        ap (λ m. cons_option (option_map (λ why. change_of why p) m) (changes_in ps)) e in
        subst (λ l. Each (λ (c : ChangeRecord). IsOneItem c.stood) l) (sym named) (one.0, rest)

pub repair-one : (bytes : List ℕ) (r : RepairedRecord) → IsRepairOf bytes r
    → Each (λ (c : ChangeRecord). IsOneItem c.stood) r.changes
repair-one bytes r is = subst (λ l. Each (λ (c : ChangeRecord). IsOneItem c.stood) l) is.changes
    (one-each is.pieces is.one)
