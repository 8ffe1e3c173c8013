-- What is visible and what is open: the tests that are computed say what the relations say.
use Rattle.std.proofs.Common.{◌≡◌, ◌↔◌, ℕ, zero, suc, ◌+◌, ◌-◌, ◌<◌, ◌≤◌, ◌⊎◌, inl, inr, Bool, true}
use Rattle.std.proofs.Common.{false, List, ◌&&◌, nat_lt, nat_le, IsTrue, subst, sym, refl, ◌∙◌, arith}
use Rattle.std.proofs.lemmas.Bool.{ltb-true, leb-true, lt-ltb, le-leb, cases_lt}
use Rattle.std.specs.Cmp.Derive.{both_true}
use Rattle.hidreport.specs.ItemType.{ItemType}
use Rattle.hidreport.specs.OpenCollections.{depth, IsOpen, stays_deep, is_open}
use Rattle.hidreport.specs.Visibility.{level, IsVisible, stays_up, is_visible}

pub both : (a b : Bool) → (a && b) ≡ true → (a ≡ true) × (b ≡ true)
both true b e = (refl, e)
both false b e = cc

-- at each of n places after j, and one more
at_last : (j n m : ℕ) → m ≤ j + suc n → (m ≤ j + n) ⊎ (m ≡ j + suc n)
at_last j n m le = elim (cases_lt (j + n) m)
    [ inl past ↦ inr (omega arith) | inr before ↦ inl before ]

-- a test of what a relation says of an index, and a walk that asks it at each of n indices after j
module _ (Says : ℕ → Type 0) (test : ℕ → Bool) (is : (m : ℕ) → test m ≡ true → Says m)
    (from : (m : ℕ) → Says m → test m ≡ true) (walk : ℕ → ℕ → Bool)
    (none : (j : ℕ) → walk j zero ≡ true)
    (next : (j n : ℕ) → walk j (suc n) ≡ (test (j + suc n) && walk j n)) where
  all-of : (j n m : ℕ) → walk j n ≡ true → j < m → m ≤ j + n → Says m
  all-of j zero m e after le = absurd (omega (arith, after, le))
  all-of j (suc n) m e after le =
      let parts = both (test (j + suc n)) (walk j n) (sym (next j n) ∙ e) in
      elim (at_last j n m le) [
        | inl before ↦ all-of j n m parts.1 after before
        | inr last ↦ subst Says (sym last) (is (j + suc n) parts.0)
      ]

  walk-of : (j n : ℕ) → ((m : ℕ) → j < m → m ≤ j + n → Says m) → walk j n ≡ true
  walk-of j zero says = none j
  walk-of j (suc n) says = next j n
      ∙ both_true (from (j + suc n) (says (j + suc n) (omega arith) (omega arith)))
      (walk-of j n (λ m after le. says m after (omega (arith, le))))

  computed : (j k : ℕ) → IsTrue (nat_lt j k && walk j (k - j))
      ↔ ((j < k) × ((m : ℕ) → j < m → m ≤ k → Says m))
  computed j k = (
    λ e. let parts = both (nat_lt j k) (walk j (k - j)) e in
        let lt : j < k = ltb-true j k parts.0 in
        (lt, λ m after le. all-of j (k - j) m parts.1 after (omega (arith, lt, le))),
    λ says. both_true (lt-ltb j k says.0) (walk-of j (k - j) (λ m after le. says.1 m after
        (omega (arith, says.0, le)))),
  )

pub visible : (items : List ItemType) (j k : ℕ) → IsTrue (is_visible items j k)
    ↔ IsVisible items j k
visible items j k = let floor = level items j in
    computed (λ m. floor ≤ level items m) (λ m. nat_le floor (level items m))
    (λ m. leb-true floor (level items m)) (λ m. le-leb floor (level items m))
    (stays_up items floor) (λ j. refl) (λ j n. refl) j k

pub opened : (items : List ItemType) (j k : ℕ) → IsTrue (is_open items j k) ↔ IsOpen items j k
opened items j k = let floor = depth items j in
    computed (λ m. floor < depth items m) (λ m. nat_lt floor (depth items m))
    (λ m. ltb-true floor (depth items m)) (λ m. lt-ltb floor (depth items m))
    (stays_deep items floor) (λ j. refl) (λ j n. refl) j k
