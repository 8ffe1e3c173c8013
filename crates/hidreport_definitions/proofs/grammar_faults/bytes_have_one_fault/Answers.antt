use Rattle.std.proofs.Common.{◌≡◌, ℕ, zero, suc, List, [], ◌∷◌, ◌++◌, length, take, refl, sym, subst, arith}
use Rattle.hidreport.specs.GlobalItem.TheVariants as global
use Rattle.hidreport.specs.ItemType.{ItemType}
use Rattle.hidreport.specs.ItemType.TheVariants as item
use Rattle.hidreport.specs.Itemising.{Reads}
use Rattle.hidreport.specs.Spelling.{item_of}
use Rattle.hidreport_definitions.specs.Cut.{page_at}
use Rattle.hidreport_definitions.proofs.ByteLemmas.{two}
use Rattle.hidreport_definitions.proofs.grammar_faults.bytes_have_one_fault.Goals as goal

abbrev page : ItemType
page = item.Global (global.UsagePage 1)

front : (l : List ℕ) (h : ℕ) (after bytes : List ℕ) → length l ≡ 0 → l ++ h ∷ after ≡ bytes
    → h ∷ after ≡ bytes
front [] h after bytes e is = is
front (x ∷ l) h after bytes e is = absurd (omega (arith, e))

begun : (rest l : List ℕ) → l ≡ 5 ∷ 1 ∷ rest → Reads item_of (take 2 l) page
begun rest l e = subst (λ k. Reads item_of (take 2 k) page) (sym e)
    (two 5 1 (omega arith) (omega arith), refl, refl)

cut-short : (n : ℕ) (x : ItemType) → Reads item_of (take n (0x75 ∷ [])) x → ⊥
cut-short zero x reads = reads
cut-short (suc zero) x reads = omega (arith, reads.1)
cut-short (suc (suc n)) x reads = omega (arith, reads.1)

pub returns-clause-cut : goal.returns-clause-cut
returns-clause-cut c = record {
  entries = page_at 0 1 ∷ [];
  header = 0x75;
  after = [];
  whole = refl;
  each = ((two 5 1 (omega arith) (omega arith), refl, refl), tt);
  starts = refl;
  none = cut-short;
  why = refl;
}

pub returns-clause-at_the_page : goal.returns-clause-at_the_page
returns-clause-at_the_page c = λ law. law.none 2 page
    (begun (0x75 ∷ []) _ (front _ law.header law.after _ law.starts law.whole))

pub returns-clause-whole : goal.returns-clause-whole
returns-clause-whole c = λ law. law.none 2 page
    (begun [] _ (front _ law.header law.after _ law.starts law.whole))
