-- The first number that has a name, among several stretches of numbers.
use Rattle.std.proofs.Common.{◌≡◌, ℕ, ◌+◌, ◌*◌, ◌/◌, ◌%◌, ◌<◌, ◌≤◌, List, Option, Some, None, MatchOption, refl, sym}
use Rattle.std.proofs.Common.{ap, ap₂, subst, ◌∙◌, arith, inl, inr}
use Rattle.std.specs.Option.{option_map, option_or}
use Rattle.std.specs.Prelude.{◌⊎◌}
use Rattle.std.proofs.lemmas.Bool.{cases_lt}
use Rattle.std.proofs.lemmas.Bool.Decides.{nat_tests}
use Rattle.hidreport_usages.specs.Families.{family_of, numbered_name}
use Rattle.hidreport_usages.specs.Names.{lower, numbered_by, numbered_text}
use Rattle.hidreport_usages.specs.Naming.{IsOnlyNamed}
use Rattle.hidreport_usages.specs.Rows.{IsFirstNamed}
use Rattle.hidreport_usages.proofs.FamilyLemmas.{none_some}
use Rattle.hidreport_usages.specs.declared.family.Family.{Family}
use Rattle.hidreport_usages.specs.declared.family.Family.TheVariants.{Button, Instance, CodeUnit, Enumerated, Vendor}

-- the first number with the name from `low` on and below `high`, or none where there is none
abbrev pub IsFirstWithin : (ℕ → Option (List ℕ)) → List ℕ → ℕ → ℕ → Option ℕ → Type 0
IsFirstWithin f name low high first = MatchOption first
    ((n : ℕ) → low ≤ n → n < high → f n ≡ Some name → ⊥)
    (λ m. (low ≤ m) × (m < high) × (f m ≡ Some name) × ((n : ℕ) → low ≤ n → n < high → f n ≡ Some name → m ≤ n))

module _ (f : ℕ → Option (List ℕ)) (name : List ℕ) where
  -- two stretches that follow each other
  pub or_within : (low middle high : ℕ) (a b : Option ℕ) → low ≤ middle → middle ≤ high
      → IsFirstWithin f name low middle a → IsFirstWithin f name middle high b
      → IsFirstWithin f name low high (option_or a b)
  or_within low middle high None None lm mh x y = λ n ln nh h. elim (cases_lt n middle) [
    | inl before ↦ x n ln before h
    | inr behind ↦ y n behind nh h
  ]
  or_within low middle high None (Some m) lm mh x y = (
    omega (arith, lm, y.0),
    y.1,
    y.2,
    λ n ln nh h. elim (cases_lt n middle) [
      | inl before ↦ absurd (x n ln before h)
      | inr behind ↦ y.3 n behind nh h
    ],
  )
  or_within low middle high (Some m) b lm mh x y = (
    x.0,
    omega (arith, mh, x.1),
    x.2,
    λ n ln nh h. elim (cases_lt n middle) [
      | inl before ↦ x.3 n ln before h
      | inr behind ↦ omega (arith, x.1, behind)
    ],
  )

  -- the same, where the last goes on without end
  pub or_last : (low middle : ℕ) (a b : Option ℕ) → low ≤ middle → IsFirstWithin f name low middle a
      → IsFirstNamed f name middle b → IsFirstNamed f name low (option_or a b)
  or_last low middle None None lm x y = λ n ln h. elim (cases_lt n middle) [
    | inl before ↦ x n ln before h
    | inr behind ↦ y n behind h
  ]
  or_last low middle None (Some m) lm x y = (
    omega (arith, lm, y.0),
    y.1,
    λ n ln h. elim (cases_lt n middle) [
      | inl before ↦ absurd (x n ln before h)
      | inr behind ↦ y.2 n behind h
    ],
  )
  or_last low middle (Some m) b lm x y = (
    x.0,
    x.2,
    λ n ln h. elim (cases_lt n middle) [
      | inl before ↦ x.3 n ln before h
      | inr behind ↦ omega (arith, x.1, behind)
    ],
  )

-- which pages have no family, and which are vendors'
below_9 : (p : ℕ) → 0 ≤ p → p < 9 → family_of p ≡ None
below_9 p l h = grind (arith, nat_tests, h)

below_16 : (p : ℕ) → 11 ≤ p → p < 16 → family_of p ≡ None
below_16 p l h = grind (arith, nat_tests, l, h)

below_129 : (p : ℕ) → 17 ≤ p → p < 129 → family_of p ≡ None
below_129 p l h = grind (arith, nat_tests, l, h)

below_vendors : (p : ℕ) → 130 ≤ p → p < 65280 → family_of p ≡ None
below_vendors p l h = grind (arith, nat_tests, l, h)

vendor_family : (p : ℕ) → 65280 ≤ p → p < 65536 → family_of p ≡ Some Vendor
vendor_family p l h = grind (arith, nat_tests, l, h)

past_family : (p : ℕ) → 65536 ≤ p → family_of p ≡ None
past_family p l = grind (arith, nat_tests, l)

abbrev pub at : ℕ → Option ℕ → Option ℕ
at page id = option_map (λ i. page * 65536 + i) id

module _ (name : List ℕ) where
  -- a number of a page of a family has the name that its id has there
  named : (page id : ℕ) (family : Family) → family_of page ≡ Some family → id < 65536
      → numbered_text (page * 65536 + id) ≡ numbered_name family id
  named page id family is inside =
      let p : (page * 65536 + id) / 65536 ≡ page = omega (arith, inside) in
      let i : (page * 65536 + id) % 65536 ≡ id = omega (arith, inside) in
      ap₂ (λ q j. numbered_by (family_of q) j) p i ∙ ap (λ o. numbered_by o id) is

  parts : (page n : ℕ) → page * 65536 ≤ n → n < page * 65536 + 65536
      → (n ≡ page * 65536 + n % 65536) × (n % 65536 < 65536)
  parts page n ln nh = (omega (arith, ln, nh), omega arith)

  pub only_within : (page : ℕ) (family : Family) (r : Option ℕ) → family_of page ≡ Some family
      → IsOnlyNamed (numbered_name family) name r
      → IsFirstWithin numbered_text name (page * 65536) (page * 65536 + 65536) (at page r)
  only_within page family None is h = λ n ln nh e.
      let part = parts page n ln nh in
      h (n % 65536) part.1 (sym (named page (n % 65536) family is part.1) ∙ ap numbered_text (sym part.0) ∙ e)
  only_within page family (Some m) is h = (
    omega arith,
    omega (arith, h.0),
    named page m family is h.0 ∙ h.1,
    λ n ln nh e.
        let part = parts page n ln nh in
        let same = h.2 (n % 65536) part.1 (sym (named page (n % 65536) family is part.1) ∙ ap numbered_text (sym part.0) ∙ e) in
        omega (arith, same, part.0),
  )

  pub none_within : (first end : ℕ) → ((p : ℕ) → first ≤ p → p < end → family_of p ≡ None)
      → IsFirstWithin numbered_text name (first * 65536) (end * 65536) None
  none_within first end none = λ n ln nh e.
      let nothing = none (n / 65536) (omega (arith, ln)) (omega (arith, nh)) in
      none_some name (sym (ap (λ o. numbered_by o (n % 65536)) nothing) ∙ e)

  -- pages of vendors have the same names, and none lies behind them
  pub vendor_last : (r : Option ℕ) → IsOnlyNamed (numbered_name Vendor) name r
      → IsFirstNamed numbered_text name (65280 * 65536) (at 65280 r)
  vendor_last None h = λ n ln e. elim (cases_lt (n / 65536) 65536) [
    | inl inside ↦ h (n % 65536) (omega arith) (sym (ap (λ o. numbered_by o (n % 65536)) (vendor_family (n / 65536) (omega (arith, ln)) inside)) ∙ e)
    | inr past ↦ none_some name (sym (ap (λ o. numbered_by o (n % 65536)) (past_family (n / 65536) past)) ∙ e)
  ]
  vendor_last (Some m) h = (
    omega arith,
    named 65280 m Vendor refl h.0 ∙ h.1,
    λ n ln e. elim (cases_lt (n / 65536) 65536) [
      | inl inside ↦
          let same = h.2 (n % 65536) (omega arith) (sym (ap (λ o. numbered_by o (n % 65536)) (vendor_family (n / 65536) (omega (arith, ln)) inside)) ∙ e) in
          omega (arith, same, ln)
      | inr past ↦ absurd (none_some name (sym (ap (λ o. numbered_by o (n % 65536)) (past_family (n / 65536) past)) ∙ e))
    ],
  )

  -- the five pages in their order
  pub first_of_pages : (a b c d e : Option ℕ) → IsOnlyNamed (numbered_name Button) name a
      → IsOnlyNamed (numbered_name Instance) name b → IsOnlyNamed (numbered_name CodeUnit) name c
      → IsOnlyNamed (numbered_name Enumerated) name d → IsOnlyNamed (numbered_name Vendor) name e
      → IsFirstNamed numbered_text name 0 (option_or (option_or (option_or (option_or (at 9 a) (at 10 b)) (at 16 c)) (at 129 d)) (at 65280 e))
  first_of_pages a b c d e ha hb hc hd he =
      let f = numbered_text in
      let page9 = or_within f name 0 (9 * 65536) (10 * 65536) None (at 9 a) (omega arith) (omega arith) (none_within 0 9 below_9) (only_within 9 Button a refl ha) in
      let page10 = or_within f name 0 (10 * 65536) (11 * 65536) (at 9 a) (at 10 b) (omega arith) (omega arith) page9 (only_within 10 Instance b refl hb) in
      let gap16 = or_within f name (11 * 65536) (16 * 65536) (17 * 65536) None (at 16 c) (omega arith) (omega arith) (none_within 11 16 below_16) (only_within 16 CodeUnit c refl hc) in
      let page16 = or_within f name 0 (11 * 65536) (17 * 65536) (option_or (at 9 a) (at 10 b)) (at 16 c) (omega arith) (omega arith) page10 gap16 in
      let gap129 = or_within f name (17 * 65536) (129 * 65536) (130 * 65536) None (at 129 d) (omega arith) (omega arith) (none_within 17 129 below_129) (only_within 129 Enumerated d refl hd) in
      let page129 = or_within f name 0 (17 * 65536) (130 * 65536) (option_or (option_or (at 9 a) (at 10 b)) (at 16 c)) (at 129 d) (omega arith) (omega arith) page16 gap129 in
      let rest = or_last f name (130 * 65536) (65280 * 65536) None (at 65280 e) (omega arith) (none_within 130 65280 below_vendors) (vendor_last e he) in
      or_last f name 0 (130 * 65536) (option_or (option_or (option_or (at 9 a) (at 10 b)) (at 16 c)) (at 129 d)) (at 65280 e) (omega arith) page129 rest

-- where one of two rules gives each name, the first number of one is the first of both, if that of
-- the other isn't before it
stays_first : (f g h : ℕ → Option (List ℕ)) (name : List ℕ) (m k : ℕ) → ((n : ℕ) → h n ≡ Some name → (f n ≡ Some name) ⊎ (g n ≡ Some name))
    → ((n : ℕ) → f n ≡ Some name → h n ≡ Some name) → m ≤ k → IsFirstNamed f name 0 (Some m) → IsFirstNamed g name 0 (Some k)
    → IsFirstNamed h name 0 (Some m)
stays_first f g h name m k from own le x y = (
  omega arith,
  own m x.1,
  λ n ln e. elim (from n e) [
    | inl l ↦ x.2 n ln l
    | inr r ↦ omega (arith, le, y.2 n ln r)
  ],
)

-- the first of two names' numbers, where one of two rules gives each name
pub lower_first : (f g h : ℕ → Option (List ℕ)) (name : List ℕ) (a b : Option ℕ)
    → ((n : ℕ) → h n ≡ Some name → (f n ≡ Some name) ⊎ (g n ≡ Some name))
    → ((n : ℕ) → f n ≡ Some name → h n ≡ Some name) → ((n : ℕ) → g n ≡ Some name → h n ≡ Some name)
    → IsFirstNamed f name 0 a → IsFirstNamed g name 0 b → IsFirstNamed h name 0 (lower a b)
lower_first f g h name None None from left right x y = λ n ln e. elim (from n e) [
  | inl l ↦ x n ln l
  | inr r ↦ y n ln r
]
lower_first f g h name None (Some m) from left right x y = (
  omega arith,
  right m y.1,
  λ n ln e. elim (from n e) [
    | inl l ↦ absurd (x n ln l)
    | inr r ↦ y.2 n ln r
  ],
)
lower_first f g h name (Some m) None from left right x y = (
  omega arith,
  left m x.1,
  λ n ln e. elim (from n e) [
    | inl l ↦ x.2 n ln l
    | inr r ↦ absurd (y n ln r)
  ],
)
lower_first f g h name (Some m) (Some k) from left right x y = elim (cases_lt k m) [
  | inl second ↦
      let e : lower (Some m) (Some k) ≡ Some k = grind (arith, nat_tests, second) in
      let turned : (n : ℕ) → h n ≡ Some name → (g n ≡ Some name) ⊎ (f n ≡ Some name) = λ n named. elim (from n named) [
        | inl l ↦ inr l
        | inr r ↦ inl r
      ] in
      subst (IsFirstNamed h name 0) (sym e) (stays_first g f h name k m turned right (omega (arith, second)) y x)
  | inr first ↦
      let e : lower (Some m) (Some k) ≡ Some m = grind (arith, nat_tests, first) in
      subst (IsFirstNamed h name 0) (sym e) (stays_first f g h name m k from left first x y)
]
