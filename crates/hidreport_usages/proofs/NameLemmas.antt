-- The names of all usages: those of the table, and those of families.
use Rattle.std.proofs.Common.{◌≡◌, ℕ, zero, suc, ◌+◌, ◌*◌, ◌/◌, ◌%◌, ◌<◌, List, [], ◌∷◌, length, Option, Some, None}
use Rattle.std.proofs.Common.{true, refl, sym, ap, ◌∙◌, arith, inl, inr}
use Rattle.std.specs.Prelude.{is_none, ◌⊎◌}
use Rattle.std.proofs.lemmas.Bool.{and_parts}
use mathlib.Core.Bool.{false≢true}
use Rattle.hidreport_usages.specs.Families.{family_of}
use Rattle.hidreport_usages.specs.Names.{lower, name_by, name_of_number, numbered_by, numbered_text}
use Rattle.hidreport_usages.specs.Rows.{Row, row_at, name_in, IsFirstNamed}
use Rattle.hidreport_usages.specs.UsageRows.{usage_rows}
use Rattle.hidreport_usages.specs.declared.family.Family.{Family}
use Rattle.hidreport_usages.proofs.Checks.{are_apart}
use Rattle.hidreport_usages.proofs.FamilyLemmas.{none_some}
use Rattle.hidreport_usages.proofs.FirstLemmas.{lower_first}
use Rattle.hidreport_usages.proofs.LookupLemmas.{name_in-row}
use Rattle.hidreport_usages.proofs.UsageTable.{apart}

is_none-None : {A : Type 0} (o : Option A) → is_none o ≡ true → o ≡ None
is_none-None None h = refl
is_none-None (Some x) h = absurd (false≢true h)

apart_at : (rows : List Row) → are_apart rows ≡ true → (p : ℕ) → p < length rows
    → family_of ((row_at rows p).0 / 65536) ≡ None
apart_at [] h p inside = absurd (omega arith)
apart_at (row ∷ rows) h zero inside = is_none-None _ (and_parts (is_none (family_of (row.0 / 65536))) (are_apart rows) h).0
apart_at (row ∷ rows) h (suc p) inside = apart_at rows (and_parts (is_none (family_of (row.0 / 65536))) (are_apart rows) h).1 p (omega arith)

-- a usage of the table is on no page of a family
no_family : (n : ℕ) (name : List ℕ) → name_in usage_rows n ≡ Some name → family_of (n / 65536) ≡ None
no_family n name h =
    let row = name_in-row usage_rows n name h in
    ap (λ k. family_of (k / 65536)) (sym row.2) ∙ apart_at usage_rows apart row.0 row.1

pub whole : (n : ℕ) → n / 65536 * 65536 + n % 65536 ≡ n
whole n = omega arith

-- a name comes from the table or from a family
either : (n : ℕ) (name : List ℕ) → name_of_number n ≡ Some name
    → (name_in usage_rows n ≡ Some name) ⊎ (numbered_text n ≡ Some name)
either n name h = cases (family_of (n / 65536)) refl
  where
    cases : (o : Option Family) → o ≡ family_of (n / 65536)
        → (name_in usage_rows n ≡ Some name) ⊎ (numbered_text n ≡ Some name)
    cases None e = inl (ap (name_in usage_rows) (sym (whole n)) ∙ ap (λ o. name_by o (n / 65536) (n % 65536)) e ∙ h)
    cases (Some family) e =
        inr (ap (λ o. numbered_by o (n % 65536)) (sym e) ∙ ap (λ o. name_by o (n / 65536) (n % 65536)) e ∙ h)

listed : (n : ℕ) (name : List ℕ) → name_in usage_rows n ≡ Some name → name_of_number n ≡ Some name
listed n name h = ap (λ o. name_by o (n / 65536) (n % 65536)) (no_family n name h) ∙ ap (name_in usage_rows) (whole n) ∙ h

numbered : (n : ℕ) (name : List ℕ) → numbered_text n ≡ Some name → name_of_number n ≡ Some name
numbered n name h = cases (family_of (n / 65536)) refl
  where
    cases : (o : Option Family) → o ≡ family_of (n / 65536) → name_of_number n ≡ Some name
    cases None e = absurd (none_some name (ap (λ o. numbered_by o (n % 65536)) e ∙ h))
    cases (Some family) e =
        ap (λ o. name_by o (n / 65536) (n % 65536)) (sym e) ∙ ap (λ o. numbered_by o (n % 65536)) e ∙ h

pub first_of_all : (name : List ℕ) (a b : Option ℕ) → IsFirstNamed (name_in usage_rows) name 0 a
    → IsFirstNamed numbered_text name 0 b → IsFirstNamed name_of_number name 0 (lower a b)
first_of_all name a b = lower_first (name_in usage_rows) numbered_text name_of_number name a b (λ n. either n name) (λ n. listed n name) (λ n. numbered n name)
