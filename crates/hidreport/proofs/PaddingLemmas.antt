-- What lacks usages is a data item, and made padding it lacks none.
use Rattle.std.proofs.Common.{◌≡◌, ℕ, ◌+◌, ◌%◌, ◌*◌, ◌≤◌, Bool, true, false}
use Rattle.std.proofs.Common.{cond, List, [], ◌∷◌, length, nat_lt, Option, None}
use Rattle.std.proofs.Common.{Some, Result, Ok, Err, refl, sym, ap, ◌∙◌, arith}
use Rattle.std.proofs.Common.{option_map}
use Rattle.std.specs.Prelude.{◌==◌, ◌||◌, ◌/◌, ◌^◌, nat_le}
use Rattle.std.proofs.lemmas.Bool.{eq-eqb, eqb-false}
use Rattle.hidreport_items.specs.Answer.{GrammarFault, Insufficient, Invalid}
use Rattle.hidreport_items.specs.Flags.{Flags, flags_of, is_flag_set}
use Rattle.hidreport_items.specs.Messages.{size_message, tag_message}
use Rattle.hidreport_items.specs.Numbers.{is_short_length, word}
use Rattle.hidreport_items.specs.Spelling.{collection_of, data_length}
use Rattle.hidreport_items.specs.Spelling.{global_item, is_long_header, item_of, local_item, main_item}
use Rattle.hidreport_items.specs.Spelling.{prefix, read_as, type_of}
use Rattle.hidreport_items.specs.declared.global.GlobalItem.{GlobalItem}
use Rattle.hidreport_items.specs.declared.global.GlobalItem.TheVariants as global
use Rattle.hidreport_items.specs.declared.item.ItemType.{ItemType}
use Rattle.hidreport_items.specs.declared.item.ItemType.TheVariants as item
use Rattle.hidreport_items.specs.declared.local.LocalItem.{LocalItem}
use Rattle.hidreport_items.specs.declared.main_item.CollectionItem.{CollectionItem}
use Rattle.hidreport_items.specs.declared.main_item.MainItem.TheVariants as main
use Rattle.hidreport_lists.specs.Entry.{Spelled}
use Rattle.hidreport_lists.specs.Itemising.{Reads}
use Rattle.hidreport_lists.specs.Mending.{PieceRecord, item_in, standing_bytes}
use Rattle.hidreport_lists.specs.declared.mending.Reason.TheVariants as reason
use Rattle.hidreport.specs.Faults.{Counts, data_fault, id_count, item_fault, limit_fault}
use Rattle.hidreport.specs.Faults.{last_end, needed_usages_fault}
use Rattle.hidreport.specs.ItemState.{ItemState, first_of}
use Rattle.hidreport.specs.Kinds.{Direction, Input, Output, Feature, data_of}
use Rattle.hidreport.specs.Making.{extent}
use Rattle.hidreport.specs.MeaningFault.{MeaningFault, TooManyEnds, TooManyPops}
use Rattle.hidreport.specs.Options.{reading_of}
use Rattle.hidreport.specs.Parser.Machine.{StateRecord, counts_in, fault_held, fault_in}
use Rattle.hidreport.specs.Repair.{constant_bytes, fault_at}
use Rattle.hidreport.specs.Repair.{is_missing_usages, mended}
use Rattle.hidreport.specs.Repair.{rewritten, rewritten_as}
use Rattle.hidreport.specs.Repair.{set_constant, widened}
use Rattle.hidreport_fields.specs.ItemParts.{field_count}
use Rattle.hidreport.specs.Usages.{usages_of}
use Rattle.hidreport.specs.declared.parser.extent.Extent.{Extent}
use Rattle.hidreport.specs.declared.repairing.repair_options.RepairOptions.{RepairOptions}
use Rattle.hidreport.proofs.KindLemmas.{kind, kind-short}
use Rattle.hidreport.proofs.RepairBitsLemmas.{widens}
use Rattle.hidreport.proofs.RepairLemmas.{Reached, fault-stop, missing-stop}
use Rattle.hidreport.proofs.SpelledPieceLemmas.{IsSpelled, Stands}
use Rattle.hidreport.proofs.UsageFaultLemmas.{collection-other, limit-other}

-- padding lacks no usages

abbrev NeverMisses : ItemType → Type 0
NeverMisses y = (h : StateRecord) → is_missing_usages (fault_in h y) ≡ false

abbrev IsPadding : Result ItemType GrammarFault → Type 0
IsPadding (Ok y) = NeverMisses y
IsPadding (Err fault) = ⊥

padding-data : (n : Counts) (f : ItemState) (flags : Flags) (o : Option Extent)
    → flags.constant ≡ true → is_missing_usages (data_fault n f flags o) ≡ false
padding-data n f flags None is = refl
padding-data n f flags (Some e) is = by flags.constant
    (nat_lt last_end (n.start + e.size * e.count)
    || nat_lt id_count (n.fields + field_count flags e.count)) (needed_usages_fault (usages_of f)) is
  where
    by : (b c : Bool) (o : Option MeaningFault) → b ≡ true
        → is_missing_usages (first_of (cond b None o) (limit_fault c)) ≡ false
    by true c o constant = limit-other c
    by false c o constant = cc

-- a main item that is read anew by another number whose flag Constant is set
padding-main : (a b c d e s : Bool) (n m : ℕ) (fault tag : GrammarFault)
    (k l : Result CollectionItem GrammarFault) (x : ItemType) (z : Direction × Flags)
    → is_flag_set m 0 ≡ true
    → read_as item.Main (cond a (read_as main.Input
    (cond s (Ok (record (flags_of n) { volatile = false })) (Err fault)))
    (cond b (read_as main.Output (cond s (Ok (flags_of n)) (Err fault)))
    (cond c (read_as main.Collection k)
    (cond d (read_as main.Feature (cond s (Ok (flags_of n)) (Err fault)))
    (cond e (Ok main.EndCollection) (Err tag)))))) ≡ Ok x
    → data_of x ≡ Some z
    → IsPadding (read_as item.Main (cond a (read_as main.Input
    (cond s (Ok (record (flags_of m) { volatile = false })) (Err fault)))
    (cond b (read_as main.Output (cond s (Ok (flags_of m)) (Err fault)))
    (cond c (read_as main.Collection l)
    (cond d (read_as main.Feature (cond s (Ok (flags_of m)) (Err fault)))
    (cond e (Ok main.EndCollection) (Err tag)))))))
padding-main true b c d e true n m fault tag k l x z set is known =
    let flags = record (flags_of m) { volatile = false } in
    λ h. padding-data (counts_in h (item.Main (main.Input flags))) h.item_state flags
    (extent h.item_state) set
padding-main true b c d e false n m fault tag k l x z set is known = cc
padding-main false true c d e true n m fault tag k l x z set is known =
    λ h. padding-data (counts_in h (item.Main (main.Output (flags_of m)))) h.item_state (flags_of m)
    (extent h.item_state) set
padding-main false true c d e false n m fault tag k l x z set is known = cc
padding-main false false true d e s n m fault tag (Ok kind) l x z set is known =
    let same : item.Main (main.Collection kind) ≡ x = cc in
    let none : data_of x ≡ None = ap data_of (sym same) in cc
padding-main false false true d e s n m fault tag (Err other) l x z set is known = cc
padding-main false false false true e true n m fault tag k l x z set is known =
    λ h. padding-data (counts_in h (item.Main (main.Feature (flags_of m)))) h.item_state (flags_of m)
    (extent h.item_state) set
padding-main false false false true e false n m fault tag k l x z set is known = cc
padding-main false false false false true s n m fault tag k l x z set is known =
    let same : item.Main main.EndCollection ≡ x = cc in
    let none : data_of x ≡ None = ap data_of (sym same) in cc
padding-main false false false false false s n m fault tag k l x z set is known = cc

global-none : (r : Result GlobalItem GrammarFault) (x : ItemType) → read_as item.Global r ≡ Ok x
    → data_of x ≡ None
global-none (Ok g) x e = let same : item.Global g ≡ x = cc in ap data_of (sym same)
global-none (Err fault) x e = cc

local-none : (r : Result LocalItem GrammarFault) (x : ItemType) → read_as item.Local r ≡ Ok x
    → data_of x ≡ None
local-none (Ok l) x e = let same : item.Local l ≡ x = cc in ap data_of (sym same)
local-none (Err fault) x e = cc

other-none : (u v w : Bool) (g : Result GlobalItem GrammarFault) (l : Result LocalItem GrammarFault)
    (x : ItemType)
    → cond u (read_as item.Global g) (cond v (read_as item.Local l)
    (cond w (Ok item.Long) (Ok item.Reserved))) ≡ Ok x → data_of x ≡ None
other-none true v w g l x e = global-none g x e
other-none false true w g l x e = local-none l x e
other-none false false true g l x e = let same : item.Long ≡ x = cc in ap data_of (sym same)
other-none false false false g l x e = let same : item.Reserved ≡ x = cc in ap data_of (sym same)

constant-set : (b : ℕ) (bs : List ℕ) → is_flag_set (word (set_constant b ∷ bs)) 0 ≡ true
constant-set b bs =
    let odd : (set_constant b + 256 * word bs) / 2 ^ 0 % 2 ≡ 1 = omega arith in
    eq-eqb ((set_constant b + 256 * word bs) / 2 ^ 0 % 2) 1 odd

-- data whose first byte has the flag set
padding-read : (h b : ℕ) (bs : List ℕ) (x : ItemType) (z : Direction × Flags)
    → item_of h (b ∷ bs) ≡ Ok x → data_of x ≡ Some z → IsPadding (item_of h (set_constant b ∷ bs))
padding-read h b bs x z is known = by (type_of h == 0) is where
  by : (t : Bool)
      → cond t (read_as item.Main (main_item h (b ∷ bs)))
      (cond (type_of h == 1) (read_as item.Global (global_item h (b ∷ bs)))
      (cond (type_of h == 2) (read_as item.Local (local_item h (b ∷ bs)))
      (cond (is_long_header h) (Ok item.Long) (Ok item.Reserved)))) ≡ Ok x
      → IsPadding (cond t (read_as item.Main (main_item h (set_constant b ∷ bs)))
      (cond (type_of h == 1) (read_as item.Global (global_item h (set_constant b ∷ bs)))
      (cond (type_of h == 2) (read_as item.Local (local_item h (set_constant b ∷ bs)))
      (cond (is_long_header h) (Ok item.Long) (Ok item.Reserved)))))
  by true e = padding-main (prefix h == 0x80) (prefix h == 0x90) (prefix h == 0xa0)
      (prefix h == 0xb0) (prefix h == 0xc0) (is_short_length (length (b ∷ bs))) (word (b ∷ bs))
      (word (set_constant b ∷ bs)) (Invalid (size_message (length (b ∷ bs))))
      (Invalid (tag_message (prefix h))) (collection_of (b ∷ bs))
      (collection_of (set_constant b ∷ bs)) x z
      (constant-set b bs) e known
  by false e =
      let none = other-none (type_of h == 1) (type_of h == 2) (is_long_header h)
      (global_item h (b ∷ bs)) (local_item h (b ∷ bs)) x e in cc

bare-main : (a b c d e : Bool) (k : Result CollectionItem GrammarFault) (tag : GrammarFault)
    (x : ItemType)
    → read_as item.Main (cond a (read_as main.Input (Err Insufficient))
    (cond b (read_as main.Output (Err Insufficient))
    (cond c (read_as main.Collection k)
    (cond d (read_as main.Feature (Err Insufficient))
    (cond e (Ok main.EndCollection) (Err tag)))))) ≡ Ok x → data_of x ≡ None
bare-main true b c d e k tag x is = cc
bare-main false true c d e k tag x is = cc
bare-main false false true d e (Ok kind) tag x is =
    let same : item.Main (main.Collection kind) ≡ x = cc in ap data_of (sym same)
bare-main false false true d e (Err other) tag x is = cc
bare-main false false false true e k tag x is = cc
bare-main false false false false true k tag x is =
    let same : item.Main main.EndCollection ≡ x = cc in ap data_of (sym same)
bare-main false false false false false k tag x is = cc

-- without data there is no data item
bare-none : (h : ℕ) (x : ItemType) → item_of h [] ≡ Ok x → data_of x ≡ None
bare-none h x is = by (type_of h == 0) is where
  by : (t : Bool)
      → cond t (read_as item.Main (main_item h []))
      (cond (type_of h == 1) (read_as item.Global (global_item h []))
      (cond (type_of h == 2) (read_as item.Local (local_item h []))
      (cond (is_long_header h) (Ok item.Long) (Ok item.Reserved)))) ≡ Ok x → data_of x ≡ None
  by true e = bare-main (prefix h == 0x80) (prefix h == 0x90) (prefix h == 0xa0) (prefix h == 0xb0)
      (prefix h == 0xc0) (collection_of []) (Invalid (tag_message (prefix h))) x e
  by false e = other-none (type_of h == 1) (type_of h == 2) (is_long_header h)
      (global_item h []) (local_item h []) x e

-- a data item is no long one, and has no three bytes of data

data-kind : (x : ItemType) (z : Direction × Flags) → data_of x ≡ Some z
    → (y : ItemType) × (kind x ≡ Some y)
data-kind (item.Main (main.Input flags)) z e = (item.Main (main.Input (flags_of 0)), refl)
data-kind (item.Main (main.Output flags)) z e = (item.Main (main.Output (flags_of 0)), refl)
data-kind (item.Main (main.Feature flags)) z e = (item.Main (main.Feature (flags_of 0)), refl)
data-kind x z e = cc

data-size : (h : ℕ) (bs : List ℕ) (x : ItemType) (z : Direction × Flags)
    → Reads item_of (h ∷ bs) x → data_of x ≡ Some z → length bs ≡ data_length h
data-size h bs x z read known =
    let which = data-kind x z known in
    read.1 ∙ kind-short h bs x which.0 read.2 which.1

not_three : (h : ℕ) → 3 ≡ data_length h → ⊥
not_three h e = by (h % 4 == 3) refl e where
  by : (b : Bool) → (h % 4 == 3) ≡ b → 3 ≡ cond b 4 (h % 4) → ⊥
  by true is same = omega (arith, same)
  by false is same = eqb-false (h % 4) 3 is (sym same)

at_most_four : (h : ℕ) → data_length h ≤ 4
at_most_four h = by (h % 4 == 3) where
  by : (b : Bool) → cond b 4 (h % 4) ≤ 4
  by true = omega arith
  by false = omega arith

-- a piece that is made padding

safe-rewritten : (h : StateRecord) (w : PieceRecord) (bytes : List ℕ)
    (r : Result ItemType GrammarFault) → IsPadding r
    → is_missing_usages (fault_held h (item_in (rewritten_as reason.NoUsage w bytes r))) ≡ false
safe-rewritten h w bytes (Ok y) padding = padding h
safe-rewritten h w bytes (Err fault) padding = absurd padding

safe-padded : (g : StateRecord) (w : PieceRecord) (bytes : List ℕ) (x : ItemType)
    (z : Direction × Flags) → Reads item_of bytes x → data_of x ≡ Some z
    → is_missing_usages (fault_held g (item_in (rewritten reason.NoUsage w (constant_bytes bytes))))
    ≡ false
safe-padded g w [] x z read known = absurd read
safe-padded g w (h ∷ []) x z read known = let none = bare-none h x read.2 in cc
safe-padded g w (h ∷ b ∷ []) x z read known =
    safe-rewritten g w (h ∷ set_constant b ∷ []) (item_of h (set_constant b ∷ []))
    (padding-read h b [] x z read.2 known)
safe-padded g w (h ∷ b ∷ c ∷ []) x z read known =
    safe-rewritten g w (h ∷ set_constant b ∷ c ∷ []) (item_of h (set_constant b ∷ c ∷ []))
    (padding-read h b (c ∷ []) x z read.2 known)
safe-padded g w (h ∷ b ∷ c ∷ d ∷ []) x z read known =
    let size = data-size h (b ∷ c ∷ d ∷ []) x z read known in absurd (not_three h size)
safe-padded g w (h ∷ b ∷ c ∷ d ∷ e ∷ []) x z read known =
    safe-rewritten g w (h ∷ set_constant b ∷ c ∷ d ∷ e ∷ [])
    (item_of h (set_constant b ∷ c ∷ d ∷ e ∷ []))
    (padding-read h b (c ∷ d ∷ e ∷ []) x z read.2 known)
safe-padded g w (h ∷ b ∷ c ∷ d ∷ e ∷ f ∷ bs) x z read known =
    let size = data-size h (b ∷ c ∷ d ∷ e ∷ f ∷ bs) x z read known in
    let most = at_most_four h in absurd (omega (arith, size, most))

-- what lacks usages is a data item

choice-other : (b : Bool) (f : MeaningFault) → is_missing_usages (Some f) ≡ false
    → is_missing_usages (cond b (Some f) None) ≡ false
choice-other true f e = e
choice-other false f e = refl

missing-data : (n : Counts) (f : ItemState) (x : ItemType)
    → is_missing_usages (item_fault n f x) ≡ true → (z : Direction × Flags) × (data_of x ≡ Some z)
missing-data n f (item.Global global.Pop) e =
    let other : is_missing_usages (item_fault n f (item.Global global.Pop)) ≡ false =
    choice-other (n.level == 0) TooManyPops refl in cc
missing-data n f (item.Global g) e = cc
missing-data n f (item.Main main.EndCollection) e =
    let other : is_missing_usages (item_fault n f (item.Main main.EndCollection)) ≡ false =
    choice-other (n.depth == 0) TooManyEnds refl in cc
missing-data n f (item.Main (main.Collection kind)) e =
    let other : is_missing_usages (item_fault n f (item.Main (main.Collection kind))) ≡ false =
    collection-other f (nat_le id_count n.collections) in cc
missing-data n f (item.Main (main.Input flags)) e = ((Input, flags), refl)
missing-data n f (item.Main (main.Output flags)) e = ((Output, flags), refl)
missing-data n f (item.Main (main.Feature flags)) e = ((Feature, flags), refl)
missing-data n f (item.Local l) e = cc
missing-data n f item.Long e = cc
missing-data n f item.Reserved e = cc

safe-lacking : (h : StateRecord) (w : PieceRecord) (o : Option Spelled) → IsSpelled o
    → is_missing_usages (fault_held h (option_map (λ (s : Spelled). s.item) o)) ≡ true
    → is_missing_usages (fault_held h (item_in (rewritten reason.NoUsage w
    (constant_bytes (standing_bytes o))))) ≡ false
safe-lacking h w None spelled missing = cc
safe-lacking h w (Some s) spelled missing =
    let known = missing-data (counts_in h s.item) h.item_state s.item missing in
    safe-padded h w s.bytes s.item known.0 spelled known.1

pub mended-safe : (options : RepairOptions) (before : List ItemType) (left : Option ℕ)
    (h : StateRecord) (p : PieceRecord) → Reached options.parse before left h → Stands p
    → is_missing_usages (fault_held h (item_in (mended options before p))) ≡ false
mended-safe options before left h p reached stands =
    let w = widened options before p in
    let wide = widens options.unsigned_maxima (reading_of options.parse before (length before)) p
    stands in
    by (is_missing_usages (fault_at options.parse before w)) w wide.stands
    (sym (ap is_missing_usages (fault-stop options.parse before left h w reached)
    ∙ missing-stop left h (item_in w)))
  where
    by : (b : Bool) (w : PieceRecord) → Stands w
        → is_missing_usages (fault_held h (item_in w)) ≡ b
        → is_missing_usages (fault_held h (item_in (cond b (rewritten reason.NoUsage w
        (constant_bytes (standing_bytes w.stands))) w))) ≡ false
    by false w st is = is
    by true w st is = safe-lacking h w w.stands st is
