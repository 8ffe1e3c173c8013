-- The usages of a list of locals, one after the other.
use Rattle.std.proofs.Common.{◌≡◌, ℕ, zero, suc, ◌+◌, ◌-◌, ◌%◌, ◌<◌, min, [], ◌∷◌, ◌++◌}
use Rattle.std.proofs.Common.{List, get_or, length, map, take, ap, sym, ◌∙◌}
use Rattle.std.proofs.Common.{arith}
use Rattle.std.proofs.Math.Seq.{take-suc}
use Rattle.std.proofs.lemmas.List.{map-append}
use Rattle.hidreport.specs.Fields.{usage_at}
use Rattle.hidreport.specs.Parser.Locals.{usage_under}
use Rattle.hidreport_fields.specs.UsageRange.{make_usage, range_from}
use Rattle.hidreport_fields.specs.declared.field.usage.Usage.{Usage}
use Rattle.hidreport.specs.declared.parser.local_usages.LocalUsage.{LocalUsage}
use Rattle.hidreport_fields.proofs.RangeLemmas.{length-range_from}

-- usage c of a minimum and a maximum, or the last one
pub usage_at-range : (page low n c : ℕ)
    → usage_at (range_from page low (suc n)) c ≡ make_usage page ((low + min c n) % 65536)
usage_at-range page low zero c =
    ap (λ k. make_usage page (k % 65536)) (let e : low ≡ low + min c 0 = omega arith in e)
usage_at-range page low (suc n) zero =
    ap (λ k. make_usage page (k % 65536)) (let e : low ≡ low + min 0 (suc n) = omega arith in e)
usage_at-range page low (suc n) (suc c) =
    usage_at-range page (low + 1) n c
    ∙ ap (λ k. make_usage page (k % 65536))
    (let e : low + 1 + min c n ≡ low + min (suc c) (suc n) = omega arith in e)

-- one more number
pub range_from-next : (page low n : ℕ)
    → range_from page low (suc n) ≡ range_from page low n ++ make_usage page ((low + n) % 65536)
    ∷ []
range_from-next page low zero =
    ap (λ k. make_usage page (k % 65536) ∷ []) (let e : low ≡ low + 0 = omega arith in e)
range_from-next page low (suc n) =
    ap (λ l. make_usage page (low % 65536) ∷ l) (range_from-next page (low + 1) n)
    ∙ ap (λ k. make_usage page (low % 65536)
    ∷ (range_from page (low + 1) n ++ make_usage page (k % 65536) ∷ []))
    (let e : low + 1 + n ≡ low + suc n = omega arith in e)

-- usage c of those from a minimum to a maximum, where there are some
pub usage_at-list : (page low high c : ℕ) → 0 < length (range_from page low (high + 1 - low))
    → usage_at (range_from page low (high + 1 - low)) c ≡ make_usage page
    ((low + min c (high - low)) % 65536)
usage_at-list page low high c some =
    let n : high + 1 - low ≡ suc (high - low) =
    omega (arith, some, length-range_from page low (high + 1 - low)) in
    ap (λ k. usage_at (range_from page low k) c) n ∙ usage_at-range page low (high - low) c

-- one more single usage that counts up
pub counted-up : (us : List LocalUsage) (page own low k : ℕ) (u : LocalUsage)
    → u ≡ get_or us k u → k < length us
    → map (usage_under page) (take k us) ≡ range_from own low k
    → usage_under page u ≡ make_usage own ((low + k) % 65536)
    → map (usage_under page) (take (suc k) us) ≡ range_from own low (suc k)
counted-up us page own low k u is lt before next =
    ap (map (usage_under page)) (take-suc us k u lt)
    ∙ map-append (usage_under page) (take k us) (get_or us k u ∷ [])
    ∙ ap (λ (v : LocalUsage). map (usage_under page) (take k us) ++ usage_under page v ∷ [])
    (sym is)
    ∙ ap (λ (vs : List Usage). vs ++ usage_under page u ∷ []) before
    ∙ ap (λ (v : Usage). range_from own low k ++ v ∷ []) next
    ∙ sym (range_from-next own low k)
