-- The names of pages: those of the table, and those of vendors.
use Rattle.std.proofs.Common.{◌≡◌, ◌≢◌, ℕ, zero, suc, ◌<◌, ◌≤◌, List, [], ◌∷◌, ◌++◌, length, slice_index, Option}
use Rattle.std.proofs.Common.{Some, None, true, ◌&&◌, sym, ap, ◌∙◌, arith, inl, inr}
use Rattle.std.specs.Prelude.{nat_lt, not, ◌==◌, codes}
use Rattle.std.proofs.lemmas.Bool.{and_parts, cases_lt}
use Rattle.std.proofs.lemmas.Bool.Decides.{nat_tests}
use Rattle.hidreport_usages.specs.Digits.{four_digits}
use Rattle.hidreport_usages.specs.Names.{page_name, vendor_name}
use Rattle.hidreport_usages.specs.Naming.{IsOnlyNamed}
use Rattle.hidreport_usages.specs.PageRows.{page_rows}
use Rattle.hidreport_usages.specs.Rows.{Row, row_at, name_in, IsFirstNamed}
use Rattle.hidreport_usages.specs.declared.page_table.TheConstants.{PAGE_PLACES}
use Rattle.hidreport_usages.proofs.Checks.{are_no_vendors}
use Rattle.hidreport_usages.proofs.FamilyLemmas.{none_some, same_some}
use Rattle.hidreport_usages.proofs.LookupLemmas.{name_in-row, one_on_page}
use Rattle.hidreport_usages.proofs.PageTable.{apart, by_name}

no_vendor_at : (rows : List Row) → are_no_vendors rows ≡ true → (p : ℕ) → p < length rows
    → ((row_at rows p).0 < 65280) × (slice_index (row_at rows p).1 6 ≢ 45)
no_vendor_at [] h p inside = absurd (omega arith)
no_vendor_at (row ∷ rows) h zero inside =
    let parts = and_parts (nat_lt row.0 65280 && not (slice_index row.1 6 == 45)) (are_no_vendors rows) h in
    let head = and_parts (nat_lt row.0 65280) (not (slice_index row.1 6 == 45)) parts.0 in
    (grind (arith, nat_tests, head.0), λ e. grind (arith, nat_tests, head.1, e))
no_vendor_at (row ∷ rows) h (suc p) inside =
    no_vendor_at rows (and_parts (nat_lt row.0 65280 && not (slice_index row.1 6 == 45)) (are_no_vendors rows) h).1 p (omega arith)

-- a page of the table is below those of vendors, and has another name than they have
listed_below : (n : ℕ) (name : List ℕ) → name_in page_rows n ≡ Some name → (n < 65280) × (slice_index name 6 ≢ 45)
listed_below n name h =
    let row = name_in-row page_rows n name h in
    let at = no_vendor_at page_rows apart row.0 row.1 in
    (omega (arith, at.0, row.2), λ e. at.1 (ap (λ letters. slice_index letters 6) row.3 ∙ e))

below : (n : ℕ) → n < 65280 → page_name n ≡ name_in page_rows n
below n h = grind (arith, nat_tests, h)

no_vendor : (n : ℕ) → n < 65280 → vendor_name n ≡ None
no_vendor n h = grind (arith, nat_tests, h)

above : (n : ℕ) → 65280 ≤ n → n < 65536 → page_name n ≡ vendor_name n
above n l h = grind (arith, nat_tests, l, h)

vendor : (n : ℕ) → 65280 ≤ n → n < 65536 → vendor_name n ≡ Some (codes "Vendor-defined " ++ four_digits n)
vendor n l h = grind (arith, nat_tests, l, h)

pub listed_only : (name : List ℕ) (p : ℕ) → p < 65536 → IsFirstNamed (name_in page_rows) name 0 (Some p)
    → IsOnlyNamed (name_in page_rows) name (Some p)
listed_only name p inside h = (inside, h.1, λ n small e. one_on_page page_rows PAGE_PLACES by_name name n p e h.1 (omega (arith, small, inside)))

pub lift_listed : (name : List ℕ) (p : ℕ) → IsOnlyNamed (name_in page_rows) name (Some p)
    → IsOnlyNamed page_name name (Some p)
lift_listed name p h =
    let at = listed_below p name h.1 in (
      h.0,
      below p at.0 ∙ h.1,
      λ n inside e. elim (cases_lt n 65280) [
        | inl low ↦ h.2 n inside (sym (below n low) ∙ e)
        | inr high ↦
            let text = same_some (codes "Vendor-defined " ++ four_digits n) name (sym (vendor n high inside) ∙ sym (above n high inside) ∙ e) in
            absurd (at.1 (ap (λ letters. slice_index letters 6) (sym text)))
      ],
    )

pub lift_vendor : (name : List ℕ) (r : Option ℕ) → IsOnlyNamed (name_in page_rows) name None
    → IsOnlyNamed vendor_name name r → IsOnlyNamed page_name name r
lift_vendor name None none h = λ n inside e. elim (cases_lt n 65280) [
  | inl low ↦ none n inside (sym (below n low) ∙ e)
  | inr high ↦ h n inside (sym (above n high inside) ∙ e)
]
lift_vendor name (Some p) none h = (
  h.0,
  is_name,
  λ n inside e. elim (cases_lt n 65280) [
    | inl low ↦ absurd (none n inside (sym (below n low) ∙ e))
    | inr high ↦ h.2 n inside (sym (above n high inside) ∙ e)
  ],
)
  where
    is_name : page_name p ≡ Some name
    is_name = elim (cases_lt p 65280) [
      | inl low ↦ absurd (none_some name (sym (no_vendor p low) ∙ h.1))
      | inr high ↦ above p high h.0 ∙ h.1
    ]

pub no_vendor_name : (name : List ℕ) → ((n : ℕ) → n < 65536
    → Some (codes "Vendor-defined " ++ four_digits n) ≡ Some name → ⊥) → (n : ℕ) → n < 65536
    → vendor_name n ≡ Some name → ⊥
no_vendor_name name none n inside e = elim (cases_lt n 65280) [
  | inl low ↦ none_some name (sym (no_vendor n low) ∙ e)
  | inr high ↦ none n inside (sym (vendor n high inside) ∙ e)
]
