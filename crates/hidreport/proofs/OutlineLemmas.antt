-- What places don't ask of an item is blanked: where items lie, their outlines lie.
use Rattle.std.proofs.Common.{◌≡◌, ℕ, zero, suc, ◌+◌, ◌-◌, Bool, true, false, cond, ◌&&◌, List, []}
use Rattle.std.proofs.Common.{◌∷◌, take, map, filter, nat_lt, Option, refl, sym, ap, ◌∙◌}
use Rattle.std.specs.Prelude.{pos, nat_le, count_by, sum_by, is_some}
use Rattle.std.specs.List.{enumerate_from}
use Rattle.std.proofs.lemmas.List.{take-map}
use Rattle.std.proofs.lemmas.List.Sums.{sum_by-cons}
use Rattle.hidreport_items.specs.Flags.{flags_of}
use Rattle.hidreport_items.specs.declared.global.GlobalItem.TheVariants as global
use Rattle.hidreport_items.specs.declared.item.ItemType.{ItemType}
use Rattle.hidreport_items.specs.declared.item.ItemType.TheVariants as item
use Rattle.hidreport_items.specs.declared.main_item.MainItem.TheVariants as main
use Rattle.hidreport.specs.ItemState.{first_of, last_value}
use Rattle.hidreport.specs.ItemState.{global as in_force}
use Rattle.hidreport.specs.Kinds.{Direction, Indexed, data_of, goes, is_pop, is_push}
use Rattle.hidreport.specs.Kinds.{report_count_of, report_id_of, report_size_of}
use Rattle.hidreport.specs.Making.{both_set, extent, first_report_id, key, makers, makers_of, makes}
use Rattle.hidreport_fields.specs.ReportIds.{same_key}
use Rattle.hidreport.specs.Options.{reading_of}
use Rattle.hidreport.specs.Places.{bits_of, end_before, start}
use Rattle.hidreport_fields.specs.ReportIds.{id_bits}
use Rattle.hidreport.specs.RepairLaws.{SamePlaces, item_direction}
use Rattle.hidreport.specs.Visibility.{before, is_visible, level, stays_up, visible}
use Rattle.hidreport.proofs.PushReadings.{IsRead, reading-globals}
use Rattle.hidreport.specs.declared.parse_options.ParseOptions.{ParseOptions}

-- flags and maxima are blanked
abbrev pub outline : ItemType → ItemType
outline (item.Main (main.Input flags)) = item.Main (main.Input (flags_of 0))
outline (item.Main (main.Output flags)) = item.Main (main.Output (flags_of 0))
outline (item.Main (main.Feature flags)) = item.Main (main.Feature (flags_of 0))
outline (item.Global (global.LogicalMaximum n)) = item.Global (global.LogicalMaximum (pos 0))
outline (item.Global (global.PhysicalMaximum n)) = item.Global (global.PhysicalMaximum (pos 0))
outline x = x

-- what places ask of an item
record Asked : Type 0 where
  push : Bool
  pop : Bool
  size : Option ℕ
  id : Option ℕ
  count : Option ℕ
  direction : Option Direction
  goes_too : Direction → Bool

abbrev asked : ItemType → Asked
asked x = record {
  push = is_push x;
  pop = is_pop x;
  size = report_size_of x;
  id = report_id_of x;
  count = report_count_of x;
  direction = item_direction x;
  goes_too = λ d. goes d (data_of x);
}

-- it is the same of both
alike : (x : ItemType) → asked (outline x) ≡ asked x
alike (item.Main (main.Input flags)) = refl
alike (item.Main (main.Output flags)) = refl
alike (item.Main (main.Feature flags)) = refl
alike (item.Global (global.LogicalMaximum n)) = refl
alike (item.Global (global.PhysicalMaximum n)) = refl
alike x = refl

abbrev outlines : List ItemType → List ItemType
outlines items = map outline items

abbrev outlined : Indexed → Indexed
outlined p = (p.0, outline p.1)

-- lists of what is made of each

sum-same : {X Y : Type 0} (g : X → Y) (f : Y → ℕ) (h : X → ℕ) → ((x : X) → f (g x) ≡ h x)
    → (xs : List X) → sum_by f (map g xs) ≡ sum_by h xs
sum-same g f h same [] = refl
sum-same g f h same (x ∷ xs) =
    sum_by-cons f (g x) (map g xs) ∙ ap (λ n. n + sum_by f (map g xs)) (same x)
    ∙ ap (λ n. h x + n) (sum-same g f h same xs) ∙ sym (sum_by-cons h x xs)

filter-same : (p q : Indexed → Bool) → ((x : Indexed) → p (outlined x) ≡ q x) → (xs : List Indexed)
    → filter p (map outlined xs) ≡ map outlined (filter q xs)
filter-same p q same [] = refl
filter-same p q same (x ∷ xs) =
    by (p (outlined x)) (q x) (same x) (filter-same p q same xs)
  where
    by : (b c : Bool) → b ≡ c → filter p (map outlined xs) ≡ map outlined (filter q xs)
        → cond b (outlined x ∷ filter p (map outlined xs)) (filter p (map outlined xs))
        ≡ map outlined (cond c (x ∷ filter q xs) (filter q xs))
    by true true e rest = ap (λ l. outlined x ∷ l) rest
    by false false e rest = rest
    by true false e rest = cc
    by false true e rest = cc

indexed-same : (n : ℕ) (items : List ItemType)
    → enumerate_from n (outlines items) ≡ map outlined (enumerate_from n items)
indexed-same n [] = refl
indexed-same n (x ∷ xs) = ap (λ l. (n, outline x) ∷ l) (indexed-same (n + 1) xs)

before-same : (items : List ItemType) (k : ℕ)
    → before (outlines items) k ≡ map outlined (before items k)
before-same items k =
    ap (enumerate_from 0) (take-map outline k items) ∙ indexed-same 0 (take k items)

-- what is visible

count-same : (p : ItemType → Bool) → ((x : ItemType) → p (outline x) ≡ p x)
    → (items : List ItemType) (k : ℕ)
    → count_by p (take k (outlines items)) ≡ count_by p (take k items)
count-same p same items k = ap (count_by p) (take-map outline k items)
    ∙ sum-same outline (λ x. cond (p x) 1 0) (λ x. cond (p x) 1 0)
    (λ x. ap (λ b. cond b 1 0) (same x)) (take k items)

level-same : (items : List ItemType) (k : ℕ) → level (outlines items) k ≡ level items k
level-same items k =
    ap (λ n. n - count_by is_pop (take k (outlines items)))
    (count-same is_push (λ x. ap (λ (a : Asked). a.push) (alike x)) items k)
    ∙ ap (λ n. count_by is_push (take k items) - n)
    (count-same is_pop (λ x. ap (λ (a : Asked). a.pop) (alike x)) items k)

stays-same : (items : List ItemType) (floor j n : ℕ)
    → stays_up (outlines items) floor j n ≡ stays_up items floor j n
stays-same items floor j zero = refl
stays-same items floor j (suc n) =
    ap (λ m. nat_le floor m && stays_up (outlines items) floor j n) (level-same items (j + suc n))
    ∙ ap (λ b. nat_le floor (level items (j + suc n)) && b) (stays-same items floor j n)

is-visible-same : (items : List ItemType) (j k : ℕ)
    → is_visible (outlines items) j k ≡ is_visible items j k
is-visible-same items j k =
    ap (λ n. nat_lt j k && stays_up (outlines items) n j (k - j)) (level-same items j)
    ∙ ap (λ b. nat_lt j k && b) (stays-same items (level items j) j (k - j))

visible-same : (items : List ItemType) (k : ℕ)
    → visible (outlines items) k ≡ map outlined (visible items k)
visible-same items k =
    ap (filter (λ (p : Indexed). is_visible (outlines items) p.0 k)) (before-same items k)
    ∙ filter-same (λ p. is_visible (outlines items) p.0 k) (λ p. is_visible items p.0 k)
    (λ p. is-visible-same items p.0 k) (before items k)

-- what is in force

value-same : (tag : ItemType → Option ℕ) → ((x : ItemType) → tag (outline x) ≡ tag x)
    → (ps : List Indexed) → last_value tag (map outlined ps) ≡ last_value tag ps
value-same tag same [] = refl
value-same tag same (p ∷ ps) =
    ap (λ o. first_of o (tag (outline p.1))) (value-same tag same ps)
    ∙ ap (λ o. first_of (last_value tag ps) o) (same p.1)

force-same : (tag : ItemType → Option ℕ) → ((x : ItemType) → tag (outline x) ≡ tag x)
    → (items : List ItemType) (k : ℕ) → in_force tag (outlines items) k ≡ in_force tag items k
force-same tag same items k =
    ap (last_value tag) (visible-same items k) ∙ value-same tag same (visible items k)

is-read : (options : ParseOptions) (items : List ItemType) (k : ℕ)
    → IsRead (reading_of options items k) items k
is-read options items k = reading-globals options.push_keeps options.usages items k

extent-same : (options : ParseOptions) (items : List ItemType) (k : ℕ)
    → extent (reading_of options (outlines items) k) ≡ extent (reading_of options items k)
extent-same options items k =
    let f = reading_of options (outlines items) k in
    let g = reading_of options items k in
    let now = is-read options (outlines items) k in
    let was = is-read options items k in
    ap (λ o. both_set o f.report_count) (now.size
    ∙ force-same report_size_of (λ x. ap (λ (a : Asked). a.size) (alike x)) items k ∙ sym was.size)
    ∙ ap (λ o. both_set g.report_size o) (now.count
    ∙ force-same report_count_of (λ x. ap (λ (a : Asked). a.count) (alike x)) items k ∙ sym was.count)

id-same : (options : ParseOptions) (items : List ItemType) (k : ℕ)
    → (reading_of options (outlines items) k).report_id ≡ (reading_of options items k).report_id
id-same options items k = (is-read options (outlines items) k).id
    ∙ force-same report_id_of (λ x. ap (λ (a : Asked). a.id) (alike x)) items k ∙ sym (is-read options items k).id

-- what makes fields, and where

makes-same : (options : ParseOptions) (items : List ItemType) (d : Direction) (p : Indexed)
    → makes (reading_of options (outlines items)) d (outlined p)
    ≡ makes (reading_of options items) d p
makes-same options items d p =
    ap (λ b. b && is_some (extent (reading_of options (outlines items) p.0)))
    (ap (λ (a : Asked). a.goes_too d) (alike p.1))
    ∙ ap (λ o. goes d (data_of p.1) && is_some o) (extent-same options items p.0)

makers-same : (options : ParseOptions) (items : List ItemType) (d : Direction) (k : ℕ)
    → makers (reading_of options (outlines items)) d (outlines items) k
    ≡ map outlined (makers (reading_of options items) d items k)
makers-same options items d k =
    ap (filter (makes (reading_of options (outlines items)) d)) (before-same items k)
    ∙ filter-same (makes (reading_of options (outlines items)) d) (makes (reading_of options items) d)
    (makes-same options items d) (before items k)

first-same : (options : ParseOptions) (items : List ItemType) (ps : List Indexed)
    → first_report_id (reading_of options (outlines items)) (map outlined ps)
    ≡ first_report_id (reading_of options items) ps
first-same options items [] = refl
first-same options items (p ∷ ps) = id-same options items p.0

key-same : (options : ParseOptions) (items : List ItemType) (d : Direction) (k : ℕ)
    → key (reading_of options (outlines items)) d (outlines items) k
    ≡ key (reading_of options items) d items k
key-same options items d k =
    let now = reading_of options (outlines items) in
    let was = reading_of options items in
    ap (λ o. first_of o (first_report_id now (makers now d (outlines items) k)))
    (id-same options items k)
    ∙ ap (λ l. first_of (was k).report_id (first_report_id now l)) (makers-same options items d k)
    ∙ ap (first_of (was k).report_id) (first-same options items (makers was d items k))

makers_of-same : (options : ParseOptions) (items : List ItemType) (d : Direction) (id : Option ℕ) (k : ℕ)
    → makers_of (reading_of options (outlines items)) d id (outlines items) k
    ≡ map outlined (makers_of (reading_of options items) d id items k)
makers_of-same options items d id k =
    let now = reading_of options (outlines items) in
    let was = reading_of options items in
    ap (filter (λ (p : Indexed). same_key (key now d (outlines items) p.0) id))
    (makers-same options items d k)
    ∙ filter-same (λ p. same_key (key now d (outlines items) p.0) id)
    (λ p. same_key (key was d items p.0) id)
    (λ p. ap (λ o. same_key o id) (key-same options items d p.0)) (makers was d items k)

end-same : (options : ParseOptions) (items : List ItemType) (d : Direction) (id : Option ℕ) (k : ℕ)
    → end_before (reading_of options (outlines items)) d id (outlines items) k
    ≡ end_before (reading_of options items) d id items k
end-same options items d id k =
    let now = reading_of options (outlines items) in
    let was = reading_of options items in
    ap (λ l. id_bits id + sum_by (λ (p : Indexed). bits_of (extent (now p.0))) l)
    (makers_of-same options items d id k)
    ∙ ap (λ n. id_bits id + n) (sum-same outlined (λ p. bits_of (extent (now p.0)))
    (λ p. bits_of (extent (was p.0))) (λ p. ap bits_of (extent-same options items p.0))
    (makers_of was d id items k))

start-same : (options : ParseOptions) (items : List ItemType) (d : Direction) (k : ℕ)
    → start (reading_of options (outlines items)) d (outlines items) k
    ≡ start (reading_of options items) d items k
start-same options items d k =
    ap (λ o. end_before (reading_of options (outlines items)) d o (outlines items) k)
    (key-same options items d k)
    ∙ end-same options items d (key (reading_of options items) d items k) k

directions-same : (items : List ItemType) → map item_direction (outlines items) ≡ map item_direction items
directions-same [] = refl
directions-same (x ∷ xs) =
    ap (λ o. o ∷ map item_direction (outlines xs)) (ap (λ (a : Asked). a.direction) (alike x))
    ∙ ap (λ l. item_direction x ∷ l) (directions-same xs)

-- items with the same outlines lie in the same places
pub same-places : (options : ParseOptions) (items others : List ItemType)
    → map outline items ≡ map outline others → SamePlaces options items others
same-places options items others same = record {
  directions = sym (directions-same items) ∙ ap (map item_direction) same ∙ directions-same others;
  extents = λ k. sym (extent-same options items k)
      ∙ ap (λ l. extent (reading_of options l k)) same ∙ extent-same options others k;
  reports = λ d k. sym (key-same options items d k)
      ∙ ap (λ l. key (reading_of options l) d l k) same ∙ key-same options others d k;
  starts = λ d k. sym (start-same options items d k)
      ∙ ap (λ l. start (reading_of options l) d l k) same ∙ start-same options others d k;
}
