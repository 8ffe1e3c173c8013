-- An item as hid-core takes it apart is the item that stands there once it is mended.
use Rattle.std.proofs.Common.{◌≡◌, ℕ, zero, suc, ◌+◌, ◌/◌, ◌%◌, ◌<◌, Bool, true, false}
use Rattle.std.proofs.Common.{cond, List, []}
use Rattle.std.proofs.Common.{◌∷◌, length, Option, None, Some, Result, Ok, Err, refl, sym, ap, ◌∙◌}
use Rattle.std.proofs.Common.{subst, arith, not}
use Rattle.std.specs.Prelude.{◌==◌, ◌||◌}
use Rattle.std.proofs.lemmas.Bool.{cond-false, cond-true, eq-eqb, ne_eqb, or_from}
use Rattle.hidreport_items.specs.Answer.{GrammarFault, Invalid}
use Rattle.hidreport_items.specs.Flags.{Flags}
use Rattle.hidreport_items.specs.Messages.{size_message, tag_message}
use Rattle.hidreport_items.specs.Numbers.{is_short_length, signed, word}
use Rattle.hidreport_items.specs.Spelling.{collection_of, feature_item, input_item, is_long_header}
use Rattle.hidreport_items.specs.Spelling.{item_of, of_short_length, output_item, prefix, read_as}
use Rattle.hidreport_items.specs.Spelling.{type_of, usage_item, with_data}
use Rattle.hidreport_items.specs.declared.global.GlobalItem.{GlobalItem}
use Rattle.hidreport_items.specs.declared.global.GlobalItem.TheVariants as global
use Rattle.hidreport_items.specs.declared.item.ItemType.{ItemType}
use Rattle.hidreport_items.specs.declared.item.ItemType.TheVariants as items
use Rattle.hidreport_items.specs.declared.local.LocalItem.{LocalItem}
use Rattle.hidreport_items.specs.declared.local.LocalItem.TheVariants as local
use Rattle.hidreport_items.specs.declared.main_item.CollectionItem.{CollectionItem}
use Rattle.hidreport_items.specs.declared.main_item.MainItem.{MainItem}
use Rattle.hidreport_items.specs.declared.main_item.MainItem.TheVariants as main
use Rattle.hidreport.specs.Taken.{has_front, is_moderate, opened_behind, pushes_behind}
use Rattle.hidreport_fields.specs.declared.field.data_item.Direction.TheVariants as direction
use Rattle.hidreport_linux.specs.CoreItems.{global_by, has_page, item_by, local_by}
use Rattle.hidreport_linux.specs.CoreItems.{without_meaning}
use Rattle.hidreport_linux.specs.declared.reading.core_item.CoreItem.{CoreItem}
use Rattle.hidreport_linux.specs.declared.reading.core_item.CoreItem.TheVariants as core

-- what a host counts and asks of an item
abbrev pub asks : ℕ → ℕ → ItemType → (Bool × Bool × ℕ × ℕ)
asks pushes opened x = (
  has_front pushes opened x,
  is_moderate x,
  pushes_behind pushes x,
  opened_behind opened x,
)

-- the item, if any, opens and closes nothing, and sets no size and no count
abbrev pub IsPlain : Option ItemType → Type 0
IsPlain None = Unit {0}
IsPlain (Some x) =
    (pushes opened : ℕ) → asks pushes opened x ≡ (true, true, pushes, opened)

-- the item that stands there is this one, as far as a host asks
abbrev pub Agrees : CoreItem → Option ItemType → Type 0
Agrees core.Push o = o ≡ Some (items.Global global.Push)
Agrees core.Pop o = o ≡ Some (items.Global global.Pop)
Agrees (core.ReportSize n) o = o ≡ Some (items.Global (global.ReportSize n))
Agrees (core.ReportCount n) o = o ≡ Some (items.Global (global.ReportCount n))
Agrees (core.Collection number) o =
    (kind : CollectionItem) × (o ≡ Some (items.Main (main.Collection kind)))
Agrees core.EndCollection o = o ≡ Some (items.Main main.EndCollection)
Agrees core.Long o = Unit {0}
Agrees core.UnknownGlobal o = Unit {0}
Agrees _ o = IsPlain o

-- the item that stands at a header with its data, by what is read there, or else with the data 0
abbrev pub standing : Result ItemType GrammarFault → Result ItemType GrammarFault → Option ItemType
standing (Ok x) with_zero = Some x
standing (Err fault) (Ok x) = Some x
standing (Err fault) (Err other) = None

-- readers by the type and the tag of a header

abbrev main_at : ℕ → List ℕ → Result MainItem GrammarFault
main_at p bs =
    cond (p == 0x80) (read_as main.Input (input_item bs))
    (cond (p == 0x90) (read_as main.Output (output_item bs))
    (cond (p == 0xa0) (read_as main.Collection (collection_of bs))
    (cond (p == 0xb0) (read_as main.Feature (feature_item bs))
    (cond (p == 0xc0) (Ok main.EndCollection) (Err (Invalid (tag_message p)))))))

abbrev global_by_tests : (a b c d e f g h i j k l : Bool) → List ℕ → Result GlobalItem GrammarFault
global_by_tests a b c d e f g h i j k l bs =
    cond a (Ok (global.UsagePage (word bs % 65536)))
    (cond b (Ok (global.LogicalMinimum (signed bs)))
    (cond c (Ok (global.LogicalMaximum (signed bs)))
    (cond d (Ok (global.PhysicalMinimum (signed bs)))
    (cond e (Ok (global.PhysicalMaximum (signed bs)))
    (cond f (Ok (global.UnitExponent (signed bs)))
    (cond g (Ok (global.Unit (word bs)))
    (cond h (with_data bs (Ok (global.ReportSize (word bs))))
    (cond i (with_data bs (Ok (global.ReportId (word bs % 256))))
    (cond j (with_data bs (Ok (global.ReportCount (word bs))))
    (cond k (Ok global.Push)
    (cond l (Ok global.Pop) (Ok global.Reserved))))))))))))

abbrev global_at : ℕ → List ℕ → Result GlobalItem GrammarFault
global_at p bs = of_short_length bs (global_by_tests (p == 0x04) (p == 0x14) (p == 0x24) (p == 0x34)
    (p == 0x44) (p == 0x54) (p == 0x64) (p == 0x74) (p == 0x84) (p == 0x94) (p == 0xa4) (p == 0xb4) bs)

abbrev local_at : ℕ → List ℕ → Result LocalItem GrammarFault
local_at p bs = with_data bs (of_short_length bs (Ok (
    cond (p == 0x08) (usage_item (word bs) (length bs))
    (cond (p == 0x18) (local.UsageMinimum (word bs))
    (cond (p == 0x28) (local.UsageMaximum (word bs))
    (cond (p == 0x38) (local.DesignatorIndex (word bs))
    (cond (p == 0x48) (local.DesignatorMinimum (word bs))
    (cond (p == 0x58) (local.DesignatorMaximum (word bs))
    (cond (p == 0x78) (local.StringIndex (word bs))
    (cond (p == 0x88) (local.StringMinimum (word bs))
    (cond (p == 0x98) (local.StringMaximum (word bs))
    (cond (p == 0xa8) (local.Delimiter (word bs))
    (local.Reserved p)))))))))))))

abbrev item_at : ℕ → ℕ → Bool → List ℕ → Result ItemType GrammarFault
item_at t p long bs =
    cond (t == 0) (read_as items.Main (main_at p bs))
    (cond (t == 1) (read_as items.Global (global_at p bs))
    (cond (t == 2) (read_as items.Local (local_at p bs))
    (cond long (Ok items.Long) (Ok items.Reserved))))

-- what hid-core asks of a tag of another type goes by

not-tag : (p k : ℕ) → (p / 4 % 4 ≡ k / 4 % 4 → ⊥) → (p == k) ≡ false
not-tag p k other = ne_eqb p k (λ e. other (ap (λ n. n / 4 % 4) e))

no-main : (p : ℕ) (bs : List ℕ) → (p / 4 % 4 ≡ 0 → ⊥) → item_by p bs ≡ global_by p bs
no-main p bs other =
    cond-false (p == 0x80) _ _ (not-tag p 0x80 other)
    ∙ cond-false (p == 0x90) _ _ (not-tag p 0x90 other)
    ∙ cond-false (p == 0xa0) _ _ (not-tag p 0xa0 other)
    ∙ cond-false (p == 0xb0) _ _ (not-tag p 0xb0 other)
    ∙ cond-false (p == 0xc0) _ _ (not-tag p 0xc0 other)

no-global : (p : ℕ) (bs : List ℕ) → (p / 4 % 4 ≡ 1 → ⊥) → global_by p bs ≡ local_by p bs
no-global p bs other =
    cond-false (p == 0x04) _ _ (not-tag p 0x04 other)
    ∙ cond-false (p == 0x14) _ _ (not-tag p 0x14 other)
    ∙ cond-false (p == 0x24) _ _ (not-tag p 0x24 other)
    ∙ cond-false (p == 0x34) _ _ (not-tag p 0x34 other)
    ∙ cond-false (p == 0x44) _ _ (not-tag p 0x44 other)
    ∙ cond-false (p == 0x54) _ _ (not-tag p 0x54 other)
    ∙ cond-false (p == 0x64) _ _ (not-tag p 0x64 other)
    ∙ cond-false (p == 0x74) _ _ (not-tag p 0x74 other)
    ∙ cond-false (p == 0x84) _ _ (not-tag p 0x84 other)
    ∙ cond-false (p == 0x94) _ _ (not-tag p 0x94 other)
    ∙ cond-false (p == 0xa4) _ _ (not-tag p 0xa4 other)
    ∙ cond-false (p == 0xb4) _ _ (not-tag p 0xb4 other)
    ∙ cond-false (p == 0xc4 || (p == 0xd4 || p == 0xe4)) _ _
    (or_from (p == 0xc4) (p == 0xd4 || p == 0xe4) (not-tag p 0xc4 other)
    (or_from (p == 0xd4) (p == 0xe4) (not-tag p 0xd4 other) (not-tag p 0xe4 other)))

no-local : (p : ℕ) (bs : List ℕ) → (p / 4 % 4 ≡ 2 → ⊥) → local_by p bs ≡ without_meaning p
no-local p bs other =
    cond-false (p == 0x08) _ _ (not-tag p 0x08 other)
    ∙ cond-false (p == 0x18) _ _ (not-tag p 0x18 other)
    ∙ cond-false (p == 0x28) _ _ (not-tag p 0x28 other)
    ∙ cond-false (p == 0xa8) _ _ (not-tag p 0xa8 other)

ignored : (p : ℕ) → (p / 4 % 4 ≡ 0 → ⊥) → without_meaning p ≡ core.Ignored
ignored p other = cond-false (p / 4 % 4 == 0) core.UnknownMain core.Ignored (ne_eqb (p / 4 % 4) 0 other)

-- main items

plain-flags : (f : Flags → MainItem) → ((flags : Flags) → IsPlain (Some (items.Main (f flags))))
    → (r z : Result Flags GrammarFault)
    → IsPlain (standing (read_as items.Main (read_as f r)) (read_as items.Main (read_as f z)))
plain-flags f plain (Ok flags) z = plain flags
plain-flags f plain (Err fault) (Ok flags) = plain flags
plain-flags f plain (Err fault) (Err other) = tt

agree-main : (a b c d e : Bool) (n number : ℕ) (i o f j p g : Result Flags GrammarFault)
    (k l : CollectionItem) (tag : GrammarFault)
    → Agrees (cond a (core.Data direction.Input n) (cond b (core.Data direction.Output n)
    (cond c (core.Collection number) (cond d (core.Data direction.Feature n)
    (cond e core.EndCollection core.UnknownMain)))))
    (standing (read_as items.Main (cond a (read_as main.Input i) (cond b (read_as main.Output o)
    (cond c (read_as main.Collection (Ok k)) (cond d (read_as main.Feature f)
    (cond e (Ok main.EndCollection) (Err tag)))))))
    (read_as items.Main (cond a (read_as main.Input j) (cond b (read_as main.Output p)
    (cond c (read_as main.Collection (Ok l)) (cond d (read_as main.Feature g)
    (cond e (Ok main.EndCollection) (Err tag))))))))
agree-main true b c d e n number i o f j p g k l tag =
    plain-flags main.Input (λ flags pushes opened. refl) i j
agree-main false true c d e n number i o f j p g k l tag =
    plain-flags main.Output (λ flags pushes opened. refl) o p
agree-main false false true d e n number i o f j p g k l tag = (k, refl)
agree-main false false false true e n number i o f j p g k l tag =
    plain-flags main.Feature (λ flags pushes opened. refl) f g
agree-main false false false false true n number i o f j p g k l tag = refl
agree-main false false false false false n number i o f j p g k l tag = tt

-- global items

abbrev core_by_tests : (a b c d e f g h i j k l u : Bool) → List ℕ → CoreItem
core_by_tests a b c d e f g h i j k l u bs =
    cond a (core.UsagePage (word bs))
    (cond b (core.LogicalMinimum (signed bs))
    (cond c (core.LogicalMaximum (signed bs) (word bs))
    (cond d (core.PhysicalMinimum (signed bs))
    (cond e (core.PhysicalMaximum (signed bs) (word bs))
    (cond f (core.UnitExponent (signed bs))
    (cond g (core.Unit (word bs))
    (cond h (core.ReportSize (word bs))
    (cond i (core.ReportId (word bs))
    (cond j (core.ReportCount (word bs))
    (cond k core.Push
    (cond l core.Pop
    (cond u core.UnknownGlobal core.Ignored))))))))))))

agree-global : (a b c d e f g h i j k l u : Bool) (bs : List ℕ)
    → Agrees (core_by_tests a b c d e f g h i j k l u bs)
    (standing (read_as items.Global (global_by_tests a b c d e f g h i j k l bs))
    (read_as items.Global (global_by_tests a b c d e f g h i j k l (0 ∷ []))))
agree-global true b c d e f g h i j k l u bs = λ pushes opened. refl
agree-global false true c d e f g h i j k l u bs = λ pushes opened. refl
agree-global false false true d e f g h i j k l u bs = λ pushes opened. refl
agree-global false false false true e f g h i j k l u bs = λ pushes opened. refl
agree-global false false false false true f g h i j k l u bs = λ pushes opened. refl
agree-global false false false false false true g h i j k l u bs = λ pushes opened. refl
agree-global false false false false false false true h i j k l u bs = λ pushes opened. refl
agree-global false false false false false false false true i j k l u [] = refl
agree-global false false false false false false false true i j k l u (x ∷ xs) = refl
agree-global false false false false false false false false true j k l u [] = λ pushes opened. refl
agree-global false false false false false false false false true j k l u (x ∷ xs) =
    λ pushes opened. refl
agree-global false false false false false false false false false true k l u [] = refl
agree-global false false false false false false false false false true k l u (x ∷ xs) = refl
agree-global false false false false false false false false false false true l u bs = refl
agree-global false false false false false false false false false false false true u bs = refl
agree-global false false false false false false false false false false false false true bs = tt
agree-global false false false false false false false false false false false false false bs =
    λ pushes opened. refl

-- local items

plain-local : (r z : Result LocalItem GrammarFault)
    → IsPlain (standing (read_as items.Local r) (read_as items.Local z))
plain-local (Ok l) z = λ pushes opened. refl
plain-local (Err fault) (Ok l) = λ pushes opened. refl
plain-local (Err fault) (Err other) = tt

agree-local : (a b c d e f g : Bool) (n : ℕ) (o : Option ItemType) → IsPlain o
    → Agrees (cond a (core.Usage n e) (cond b (core.UsageMinimum n)
    (cond c (core.UsageMaximum n f) (cond d (core.Delimiter g) core.Ignored)))) o
agree-local true b c d e f g n o plain = plain
agree-local false true c d e f g n o plain = plain
agree-local false false true d e f g n o plain = plain
agree-local false false false true e f g n o plain = plain
agree-local false false false false e f g n o plain = plain

-- of each type

short-so : {A : Type 0} (bs : List ℕ) (r : Result A GrammarFault) → is_short_length (length bs) ≡ true
    → of_short_length bs r ≡ r
short-so bs r short =
    cond-true (is_short_length (length bs)) r (Err (Invalid (size_message (length bs)))) short

reserved : (t p : ℕ) (bs : List ℕ) → item_at (suc (suc (suc t))) p false bs ≡ Ok items.Reserved
reserved t p bs =
    cond-false (suc (suc (suc t)) == 0) _ _
    (ne_eqb (suc (suc (suc t))) 0 (λ e. absurd (omega (arith, e))))
    ∙ cond-false (suc (suc (suc t)) == 1) _ _
    (ne_eqb (suc (suc (suc t))) 1 (λ e. absurd (omega (arith, e))))
    ∙ cond-false (suc (suc (suc t)) == 2) _ _
    (ne_eqb (suc (suc (suc t))) 2 (λ e. absurd (omega (arith, e))))

agrees-by : (t p : ℕ) (other : Bool) (bs : List ℕ) → p / 4 % 4 ≡ t
    → is_short_length (length bs) ≡ true
    → Agrees (item_by p bs) (standing (item_at t p false bs) (item_at t p other (0 ∷ [])))
agrees-by zero p other bs is short =
    let no_global : p / 4 % 4 ≡ 1 → ⊥ = λ e. absurd (omega (arith, e, is)) in
    let no_local : p / 4 % 4 ≡ 2 → ⊥ = λ e. absurd (omega (arith, e, is)) in
    let unknown : without_meaning p ≡ core.UnknownMain =
    cond-true (p / 4 % 4 == 0) core.UnknownMain core.Ignored (eq-eqb (p / 4 % 4) 0 is) in
    let rest : global_by p bs ≡ core.UnknownMain =
    no-global p bs no_global ∙ no-local p bs no_local ∙ unknown in
    subst (λ c. Agrees (cond (p == 0x80) (core.Data direction.Input (word bs))
    (cond (p == 0x90) (core.Data direction.Output (word bs))
    (cond (p == 0xa0) (core.Collection (word bs % 256))
    (cond (p == 0xb0) (core.Data direction.Feature (word bs))
    (cond (p == 0xc0) core.EndCollection c)))))
    (standing (read_as items.Main (main_at p bs)) (read_as items.Main (main_at p (0 ∷ [])))))
    (sym rest) (agree-main (p == 0x80) (p == 0x90) (p == 0xa0) (p == 0xb0) (p == 0xc0) (word bs)
    (word bs % 256) (input_item bs) (output_item bs) (feature_item bs) (input_item (0 ∷ []))
    (output_item (0 ∷ [])) (feature_item (0 ∷ [])) _ _ (Invalid (tag_message p)))
agrees-by (suc zero) p other bs is short =
    let no_main : p / 4 % 4 ≡ 0 → ⊥ = λ e. absurd (omega (arith, e, is)) in
    let no_local : p / 4 % 4 ≡ 2 → ⊥ = λ e. absurd (omega (arith, e, is)) in
    let rest : local_by p bs ≡ core.Ignored = no-local p bs no_local ∙ ignored p no_main in
    let tests : global_by p bs ≡ core_by_tests (p == 0x04) (p == 0x14) (p == 0x24) (p == 0x34)
    (p == 0x44) (p == 0x54) (p == 0x64) (p == 0x74) (p == 0x84) (p == 0x94) (p == 0xa4) (p == 0xb4)
    (p == 0xc4 || (p == 0xd4 || p == 0xe4)) bs = rw rest refl in
    let read : global_at p bs ≡ global_by_tests (p == 0x04) (p == 0x14) (p == 0x24) (p == 0x34)
    (p == 0x44) (p == 0x54) (p == 0x64) (p == 0x74) (p == 0x84) (p == 0x94) (p == 0xa4) (p == 0xb4)
    bs = short-so bs _ short in
    subst (λ c. Agrees c (standing (read_as items.Global (global_at p bs))
    (read_as items.Global (global_at p (0 ∷ []))))) (sym (no-main p bs no_main ∙ tests))
    (subst (λ r. Agrees (core_by_tests (p == 0x04) (p == 0x14) (p == 0x24) (p == 0x34)
    (p == 0x44) (p == 0x54) (p == 0x64) (p == 0x74) (p == 0x84) (p == 0x94) (p == 0xa4) (p == 0xb4)
    (p == 0xc4 || (p == 0xd4 || p == 0xe4)) bs)
    (standing (read_as items.Global r) (read_as items.Global (global_at p (0 ∷ []))))) (sym read)
    (agree-global (p == 0x04) (p == 0x14) (p == 0x24) (p == 0x34)
    (p == 0x44) (p == 0x54) (p == 0x64) (p == 0x74) (p == 0x84) (p == 0x94) (p == 0xa4) (p == 0xb4)
    (p == 0xc4 || (p == 0xd4 || p == 0xe4)) bs))
agrees-by (suc (suc zero)) p other bs is short =
    let no_main : p / 4 % 4 ≡ 0 → ⊥ = λ e. absurd (omega (arith, e, is)) in
    let no_global : p / 4 % 4 ≡ 1 → ⊥ = λ e. absurd (omega (arith, e, is)) in
    let tests : local_by p bs ≡ cond (p == 0x08) (core.Usage (word bs) (has_page bs))
    (cond (p == 0x18) (core.UsageMinimum (word bs))
    (cond (p == 0x28) (core.UsageMaximum (word bs) (has_page bs))
    (cond (p == 0xa8) (core.Delimiter (not (word bs == 0))) core.Ignored))) =
    rw (ignored p no_main) refl in
    let plain = plain-local (local_at p bs) (local_at p (0 ∷ [])) in
    subst (λ c. Agrees c (standing (read_as items.Local (local_at p bs))
    (read_as items.Local (local_at p (0 ∷ [])))))
    (sym (no-main p bs no_main ∙ no-global p bs no_global ∙ tests))
    (agree-local (p == 0x08) (p == 0x18) (p == 0x28) (p == 0xa8) (has_page bs) (has_page bs)
    (not (word bs == 0)) (word bs) _ plain)
agrees-by (suc (suc (suc t))) p other bs is short =
    let no_main : p / 4 % 4 ≡ 0 → ⊥ = λ e. absurd (omega (arith, e, is)) in
    let no_global : p / 4 % 4 ≡ 1 → ⊥ = λ e. absurd (omega (arith, e, is)) in
    let no_local : p / 4 % 4 ≡ 2 → ⊥ = λ e. absurd (omega (arith, e, is)) in
    subst (λ r. Agrees (item_by p bs) (standing r (item_at (suc (suc (suc t))) p other (0 ∷ []))))
    (sym (reserved t p bs))
    (subst (λ c. Agrees c (Some items.Reserved))
    (sym (no-main p bs no_main ∙ no-global p bs no_global ∙ no-local p bs no_local
    ∙ ignored p no_main))
    (λ pushes opened. refl))

-- the header without its size has the type, and so has that of one byte of data

pub agrees : (h : ℕ) (bs : List ℕ) → h < 240 → is_short_length (length bs) ≡ true
    → Agrees (item_by (prefix h) bs) (standing (item_of h bs) (item_of (prefix h + 1) (0 ∷ [])))
agrees h bs small short =
    let same : prefix h / 4 % 4 ≡ type_of h = omega arith in
    let types : type_of (prefix h + 1) ≡ type_of h = omega arith in
    let prefixes : prefix (prefix h + 1) ≡ prefix h = omega arith in
    let not_long : is_long_header h ≡ false =
    ne_eqb h 0xfe (λ e. absurd (omega (arith, small, e))) in
    let read : item_of h bs ≡ item_at (type_of h) (prefix h) false bs =
    ap (λ b. item_at (type_of h) (prefix h) b bs) not_long in
    let zero_read : item_of (prefix h + 1) (0 ∷ [])
    ≡ item_at (type_of h) (prefix h) (is_long_header (prefix h + 1)) (0 ∷ []) =
    ap (λ t. item_at t (prefix (prefix h + 1)) (is_long_header (prefix h + 1)) (0 ∷ [])) types
    ∙ ap (λ p. item_at (type_of h) p (is_long_header (prefix h + 1)) (0 ∷ [])) prefixes in
    subst (λ r. Agrees (item_by (prefix h) bs) (standing r (item_of (prefix h + 1) (0 ∷ []))))
    (sym read)
    (subst (λ z. Agrees (item_by (prefix h) bs)
    (standing (item_at (type_of h) (prefix h) false bs) z)) (sym zero_read)
    (agrees-by (type_of h) (prefix h) (is_long_header (prefix h + 1)) bs same short))
