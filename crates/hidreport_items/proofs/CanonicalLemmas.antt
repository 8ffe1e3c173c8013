-- What is written for an item is its canonical spelling, if some bytes spell it.
use Rattle.std.proofs.Common.{◌≡◌, ◌≢◌, ℕ, zero, suc, ◌+◌, ◌*◌, ◌/◌, ◌%◌, ◌^◌, ◌<◌, ◌≤◌, Bool, true}
use Rattle.std.proofs.Common.{false, nat_lt, cond, List, [], ◌∷◌, length, drop, Result, Ok, Err}
use Rattle.std.proofs.Common.{IfOk, Vec, Global, refl, sym, ap, ◌∙◌, subst, arith}
use Rattle.std.specs.Prelude.{ℤ, ◌==◌}
use Rattle.std.proofs.lemmas.Bool.{cond_both, cond-true, cond-false, eqb-true, ne_eqb, lt-ltb}
use Rattle.std.proofs.lemmas.Bool.Decides.{nat_tests}
use Rattle.hidreport_items.specs.Answer.{GrammarFault, Invalid, Writes}
use Rattle.hidreport_items.specs.declared.error.HidError.{HidError}
use Rattle.hidreport_items.specs.Messages.{size_message, tag_message}
use Rattle.hidreport_items.specs.Canonical.{IsCanonical, is_bare}
use Rattle.hidreport_items.specs.Flags.{Flags, flags_of, is_flag_set}
use Rattle.hidreport_items.specs.Kept.{is_kept}
use Rattle.hidreport_items.specs.Numbers.{word, signed, is_short_length}
use Rattle.hidreport_items.specs.Spelling.{data_length, following_length, is_long_header, prefix}
use Rattle.hidreport_items.specs.Spelling.{type_of}
use Rattle.hidreport_items.specs.Spelling.{collection_of}
use Rattle.hidreport_items.specs.Spelling.{item_of, main_item, global_item, local_item, usage_item}
use Rattle.hidreport_items.specs.Spelling.{read_as, with_data, of_short_length, input_item}
use Rattle.hidreport_items.specs.Spelling.{output_item, feature_item, collection_item}
use Rattle.hidreport_items.specs.Spelling.{kind_number, first_or_zero, AreBytes}
use Rattle.hidreport_items.specs.Spelling.{Spells, read_with}
use Rattle.hidreport_items.specs.Writing.{with_header, four_bytes, unsigned_data, signed_data}
use Rattle.hidreport_items.specs.Writing.{count_data, flags_data, flags_number, item_bytes}
use Rattle.hidreport_items.specs.Writing.{main_bytes, global_bytes, local_bytes}
use Rattle.hidreport_items.specs.declared.main_item.MainItem.{MainItem}
use Rattle.hidreport_items.specs.declared.main_item.MainItem.TheVariants as main
use Rattle.hidreport_items.specs.declared.main_item.CollectionItem.{CollectionItem}
use Rattle.hidreport_items.specs.declared.global.GlobalItem.{GlobalItem}
use Rattle.hidreport_items.specs.declared.global.GlobalItem.TheVariants as global
use Rattle.hidreport_items.specs.declared.local.LocalItem.{LocalItem}
use Rattle.hidreport_items.specs.declared.local.LocalItem.TheVariants as local
use Rattle.hidreport_items.specs.declared.item.ItemType.{ItemType}
use Rattle.hidreport_items.specs.declared.item.ItemType.TheVariants as item
use Rattle.hidreport_items.proofs.WordLemmas.{IsLeast, announced-four, by-shape, bytes-behind}
use Rattle.hidreport_items.proofs.WordLemmas.{word-four}
use Rattle.hidreport_items.proofs.WordLemmas.{word-unsigned, length-unsigned, unsigned-least}
use Rattle.hidreport_items.proofs.WordLemmas.{signed-least, signed-again, signed-fits-any}
use Rattle.hidreport_items.proofs.WordLemmas.{word-fits}
use Rattle.hidreport_items.proofs.WordLemmas.{unsigned-two, are-one, are-four, are-unsigned}
use Rattle.hidreport_items.proofs.WordLemmas.{are-signed}
use Rattle.hidreport_items.proofs.WordLemmas.{HasShape, shape-signed, fits}
use Rattle.hidreport_items.proofs.FollowingLemmas.{kept-short, small-short}
use Rattle.hidreport_items.proofs.FlagWordLemmas.{flags-again, flags-least, number-le}
use Rattle.hidreport_items.proofs.FlagWordLemmas.{number-without}
use Rattle.hidreport_items.proofs.FlagWordLemmas.{word-flags, length-flags, are-flags}

-- what data says of the item that it spells
abbrev pub SaysGlobal : List ℕ → GlobalItem → Type 0
SaysGlobal bs (global.UsagePage n) = word bs % 65536 ≡ n
SaysGlobal bs (global.LogicalMinimum z) = signed bs ≡ z
SaysGlobal bs (global.LogicalMaximum z) = signed bs ≡ z
SaysGlobal bs (global.PhysicalMinimum z) = signed bs ≡ z
SaysGlobal bs (global.PhysicalMaximum z) = signed bs ≡ z
SaysGlobal bs (global.UnitExponent z) = signed bs ≡ z
SaysGlobal bs (global.Unit n) = word bs ≡ n
SaysGlobal bs (global.ReportSize n) = word bs ≡ n
SaysGlobal bs (global.ReportId n) = word bs % 256 ≡ n
SaysGlobal bs (global.ReportCount n) = word bs ≡ n
SaysGlobal bs global.Push = Unit {0}
SaysGlobal bs global.Pop = Unit {0}
SaysGlobal bs global.Reserved = Unit {0}

abbrev pub SaysLocal : List ℕ → LocalItem → Type 0
SaysLocal bs (local.Usage page id) =
    (length bs ≡ 4) × (word bs / 65536 ≡ page) × (word bs % 65536 ≡ id)
SaysLocal bs (local.UsageId n) = word bs % 65536 ≡ n
SaysLocal bs (local.UsageMinimum n) = word bs ≡ n
SaysLocal bs (local.UsageMaximum n) = word bs ≡ n
SaysLocal bs (local.DesignatorIndex n) = word bs ≡ n
SaysLocal bs (local.DesignatorMinimum n) = word bs ≡ n
SaysLocal bs (local.DesignatorMaximum n) = word bs ≡ n
SaysLocal bs (local.StringIndex n) = word bs ≡ n
SaysLocal bs (local.StringMinimum n) = word bs ≡ n
SaysLocal bs (local.StringMaximum n) = word bs ≡ n
SaysLocal bs (local.Delimiter n) = word bs ≡ n
SaysLocal bs (local.Reserved value) = Unit {0}

abbrev pub SaysMain : List ℕ → MainItem → Type 0
SaysMain bs (main.Input f) = f ≡ record (flags_of (word bs)) { volatile = false }
SaysMain bs (main.Output f) = f ≡ flags_of (word bs)
SaysMain bs (main.Feature f) = f ≡ flags_of (word bs)
SaysMain bs (main.Collection k) = collection_item (first_or_zero bs) ≡ k
SaysMain bs main.EndCollection = Unit {0}

abbrev pub Says : List ℕ → ItemType → Type 0
Says bs (item.Main x) = SaysMain bs x
Says bs (item.Global x) = SaysGlobal bs x
Says bs (item.Local x) = SaysLocal bs x
Says bs item.Long = Unit {0}
Says bs item.Reserved = Unit {0}

-- what was read says this
abbrev pub IfRead : {A : Type 0} → (A → Type 0) → Result A GrammarFault → Type 0
IfRead P (Ok x) = P x
IfRead P (Err e) = Unit {0}

says-short : {A : Type 0} (P : A → Type 0) (bs : List ℕ) (r : Result A GrammarFault) → IfRead P r
    → IfRead P (of_short_length bs r)
says-short {A} P bs r h = says-short-by (is_short_length (length bs))
    (Err (Invalid (size_message (length bs)))) tt
  where
    says-short-by : (b : Bool) (e : Result A GrammarFault) → IfRead P e → IfRead P (cond b r e)
    says-short-by true e none = h
    says-short-by false e none = none

says-data : {A : Type 0} (P : A → Type 0) (bs : List ℕ) (r : Result A GrammarFault) → IfRead P r
    → IfRead P (with_data bs r)
says-data P [] r h = tt
says-data P (b ∷ bs) r h = h

says-as : {A B : Type 0} (P : A → Type 0) (Q : B → Type 0) (f : A → B) (r : Result A GrammarFault)
    → ((x : A) → P x → Q (f x)) → IfRead P r → IfRead Q (read_as f r)
says-as P Q f (Ok x) step h = step x h
says-as P Q f (Err e) step h = tt

says-input : (bs : List ℕ)
    → IfRead (λ f. f ≡ record (flags_of (word bs)) { volatile = false }) (input_item bs)
says-input bs =
    let f : Flags = record (flags_of (word bs)) { volatile = false } in
    says-data (λ g. g ≡ f) bs (of_short_length bs (Ok f)) (says-short (λ g. g ≡ f) bs (Ok f) refl)

says-flags : (bs : List ℕ)
    → IfRead (λ f. f ≡ flags_of (word bs))
    (with_data bs (of_short_length bs (Ok (flags_of (word bs)))))
says-flags bs =
    let f : Flags = flags_of (word bs) in
    says-data (λ g. g ≡ f) bs (of_short_length bs (Ok f)) (says-short (λ g. g ≡ f) bs (Ok f) refl)

-- a way to read: its test, its value, and that this one says what it is read from
pub record Way {A : Type 0} (P : A → Type 0) : Type 0 where
  pub test : Bool
  pub value : A
  pub says : P value

abbrev way : {A : Type 0} (P : A → Type 0) (test : Bool) (value : A) → P value → Way P
way P test value says = record { test = test; value = value; says = says }

-- the value of the first way whose test is true, or else the last
abbrev pub choose : {A : Type 0} {P : A → Type 0} → List (Way P) → A → A
choose [] last = last
choose (w ∷ ways) last = cond w.test w.value (choose ways last)

says-chosen : {A : Type 0} {P : A → Type 0} (ways : List (Way P)) (last : A) → P last
    → P (choose ways last)
says-chosen [] last says = says
says-chosen {A} {P} (w ∷ ways) last says = cond_both w.test w.value (choose ways last) P
    (λ e. w.says) (λ e. says-chosen ways last says)

says-main : (h : ℕ) (bs : List ℕ) → IfRead (SaysMain bs) (main_item h bs)
says-main h bs =
    let P : Result MainItem GrammarFault → Type 0 = IfRead (SaysMain bs) in
    let f : Flags = flags_of (word bs) in
    let input = says-as (λ g. g ≡ record f { volatile = false }) (SaysMain bs) main.Input
    (input_item bs) (λ g is. is) (says-input bs) in
    let output = says-as (λ g. g ≡ f) (SaysMain bs) main.Output (output_item bs) (λ g is. is)
    (says-flags bs) in
    let feature = says-as (λ g. g ≡ f) (SaysMain bs) main.Feature (feature_item bs) (λ g is. is)
    (says-flags bs) in
    let ways : List (Way P) =
    way P (prefix h == 0x80) (read_as main.Input (input_item bs)) input
    ∷ way P (prefix h == 0x90) (read_as main.Output (output_item bs)) output
    ∷ way P (prefix h == 0xa0) (read_as main.Collection (collection_of bs)) refl
    ∷ way P (prefix h == 0xb0) (read_as main.Feature (feature_item bs)) feature
    ∷ way P (prefix h == 0xc0) (Ok main.EndCollection) tt ∷ [] in
    says-chosen ways (Err (Invalid (tag_message (prefix h)))) tt

says-global : (h : ℕ) (bs : List ℕ) → IfRead (SaysGlobal bs) (global_item h bs)
says-global h bs =
    let P : Result GlobalItem GrammarFault → Type 0 = IfRead (SaysGlobal bs) in
    let size : Result GlobalItem GrammarFault = Ok (global.ReportSize (word bs)) in
    let id : Result GlobalItem GrammarFault = Ok (global.ReportId (word bs % 256)) in
    let count : Result GlobalItem GrammarFault = Ok (global.ReportCount (word bs)) in
    let ways : List (Way P) =
    way P (prefix h == 0x04) (Ok (global.UsagePage (word bs % 65536))) refl
    ∷ way P (prefix h == 0x14) (Ok (global.LogicalMinimum (signed bs))) refl
    ∷ way P (prefix h == 0x24) (Ok (global.LogicalMaximum (signed bs))) refl
    ∷ way P (prefix h == 0x34) (Ok (global.PhysicalMinimum (signed bs))) refl
    ∷ way P (prefix h == 0x44) (Ok (global.PhysicalMaximum (signed bs))) refl
    ∷ way P (prefix h == 0x54) (Ok (global.UnitExponent (signed bs))) refl
    ∷ way P (prefix h == 0x64) (Ok (global.Unit (word bs))) refl
    ∷ way P (prefix h == 0x74) (with_data bs size) (says-data (SaysGlobal bs) bs size refl)
    ∷ way P (prefix h == 0x84) (with_data bs id) (says-data (SaysGlobal bs) bs id refl)
    ∷ way P (prefix h == 0x94) (with_data bs count) (says-data (SaysGlobal bs) bs count refl)
    ∷ way P (prefix h == 0xa4) (Ok global.Push) tt
    ∷ way P (prefix h == 0xb4) (Ok global.Pop) tt ∷ [] in
    says-short (SaysGlobal bs) bs (choose ways (Ok global.Reserved))
    (says-chosen ways (Ok global.Reserved) tt)

says-usage : (bs : List ℕ) → SaysLocal bs (usage_item (word bs) (length bs))
says-usage bs =
    cond_both (length bs == 4) (local.Usage (word bs / 65536) (word bs % 65536))
    (local.UsageId (word bs % 65536)) (SaysLocal bs)
    (λ e. (eqb-true (length bs) 4 e, refl, refl)) (λ e. refl)

says-local : (h : ℕ) (bs : List ℕ) → IfRead (SaysLocal bs) (local_item h bs)
says-local h bs =
    let P : LocalItem → Type 0 = SaysLocal bs in
    let ways : List (Way P) =
    way P (prefix h == 0x08) (usage_item (word bs) (length bs)) (says-usage bs)
    ∷ way P (prefix h == 0x18) (local.UsageMinimum (word bs)) refl
    ∷ way P (prefix h == 0x28) (local.UsageMaximum (word bs)) refl
    ∷ way P (prefix h == 0x38) (local.DesignatorIndex (word bs)) refl
    ∷ way P (prefix h == 0x48) (local.DesignatorMinimum (word bs)) refl
    ∷ way P (prefix h == 0x58) (local.DesignatorMaximum (word bs)) refl
    ∷ way P (prefix h == 0x78) (local.StringIndex (word bs)) refl
    ∷ way P (prefix h == 0x88) (local.StringMinimum (word bs)) refl
    ∷ way P (prefix h == 0x98) (local.StringMaximum (word bs)) refl
    ∷ way P (prefix h == 0xa8) (local.Delimiter (word bs)) refl ∷ [] in
    let item : LocalItem = choose ways (local.Reserved (prefix h)) in
    says-data P bs (of_short_length bs (Ok item)) (says-short P bs (Ok item)
    (says-chosen ways (local.Reserved (prefix h)) tt))

-- what a header and data spell, the data says
pub says-item : (h : ℕ) (bs : List ℕ) → IfRead (Says bs) (item_of h bs)
says-item h bs =
    let P : Result ItemType GrammarFault → Type 0 = IfRead (Says bs) in
    let main = says-as (SaysMain bs) (Says bs) item.Main (main_item h bs) (λ x is. is)
    (says-main h bs) in
    let global = says-as (SaysGlobal bs) (Says bs) item.Global (global_item h bs) (λ x is. is)
    (says-global h bs) in
    let local = says-as (SaysLocal bs) (Says bs) item.Local (local_item h bs) (λ x is. is)
    (says-local h bs) in
    let ways : List (Way P) =
    way P (type_of h == 0) (read_as item.Main (main_item h bs)) main
    ∷ way P (type_of h == 1) (read_as item.Global (global_item h bs)) global
    ∷ way P (type_of h == 2) (read_as item.Local (local_item h bs)) local
    ∷ way P (is_long_header h) (Ok item.Long) tt ∷ [] in
    says-chosen ways (Ok item.Reserved) tt

-- what a kept item's spelling has behind its header
pub record Behind (bs : List ℕ) (x : ItemType) : Type 0 where
  pub are : AreBytes bs
  pub short : length bs ≤ 4
  pub known : length bs ≢ 3
  pub says : Says bs x

behind : (h : ℕ) (bs : List ℕ) (x : ItemType) → is_kept x ≡ true → Spells (h ∷ bs) x → Behind bs x
behind h bs x kept s =
    let four = announced-four h in
    let size : length bs ≡ data_length h = s.1 ∙ kept-short h bs x s.2 kept in
    record {
      are = bytes-behind h bs s.0;
      short = omega (arith, four.0, size);
      known = λ e. four.1 (sym size ∙ e);
      says = subst (IfRead (Says bs)) s.2 (says-item h bs);
    }

-- data of a header that reads it so spells what it reads
spelled-by : (p : ℕ) (f : List ℕ → ItemType) (bs : List ℕ) → AreBytes bs → HasShape bs → p < 0xf0
    → data_length (p + 1) ≡ 1 → data_length (p + 2) ≡ 2 → data_length (p + 3) ≡ 4
    → ((a : ℕ) → item_of (p + 1) (a ∷ []) ≡ Ok (f (a ∷ [])))
    → ((a b : ℕ) → item_of (p + 2) (a ∷ b ∷ []) ≡ Ok (f (a ∷ b ∷ [])))
    → ((a b c d : ℕ) → item_of (p + 3) (a ∷ b ∷ c ∷ d ∷ []) ≡ Ok (f (a ∷ b ∷ c ∷ d ∷ [])))
    → Spells (with_header p bs) (f bs)
spelled-by p f bs are shape room one two four read_one read_two read_four =
    by-shape (λ bs. AreBytes bs → Spells (with_header p bs) (f bs)) bs shape.0 shape.1 shape.2
    (λ a are. (
      are-behind (p + 1) (a ∷ []) (omega arith) are,
      sym
          (small-short (p + 1) (a ∷ []) (omega arith) ∙ one),
      read_one a,
    ))
    (λ a b are. (
      are-behind (p + 2) (a ∷ b ∷ []) (omega arith) are,
      sym
          (small-short (p + 2) (a ∷ b ∷ []) (omega arith) ∙ two),
      read_two a b,
    ))
    (λ a b c d are. (
      are-behind (p + 3) (a ∷ b ∷ c ∷ d ∷ []) (omega arith) are,
      sym
          (small-short (p + 3) (a ∷ b ∷ c ∷ d ∷ []) (omega arith) ∙ four),
      read_four a b c d,
    ))
    are
  where
    are-behind : (h : ℕ) (bs : List ℕ) → h < 256 → AreBytes bs → AreBytes (h ∷ bs)
    are-behind h bs lt are zero d k = lt
    are-behind h bs lt are (suc k) d le = are k d (omega arith)

-- an item that is kept, and says something by its data
abbrev pub IsSaid : ItemType → Type 0
IsSaid x = (is_bare x ≡ false) × (is_kept x ≡ true)

-- spelled, and least among all data that says the item
canonical-by : (x : ItemType) (p : ℕ) (bs : List ℕ) → Spells (with_header p bs) x → IsSaid x
    → 0 < length bs
    → ((other : List ℕ) → Behind other x → 0 < length other → IsLeast bs other)
    → IsCanonical (with_header p bs) x
canonical-by x p bs spells said some least = record {
  spells = spells;
  bare = λ e. let bad : true ≡ false = sym e ∙ said.0 in cc;
  has_data = λ e. omega arith;
  shortest = shorter;
  smallest = smaller;
}
  where
    shorter : (other : List ℕ) → Spells other x → 1 < length other
        → length (with_header p bs) ≤ length other
    shorter [] s more = absurd s
    shorter (h ∷ others) s more = let l = least others (behind h others x said.1 s) (omega arith) in
        omega (arith, l.short)

    smaller : (other : List ℕ) → Spells other x → length other ≡ length (with_header p bs)
        → word bs ≤ word (drop 1 other)
    smaller [] s same = absurd s
    smaller (h ∷ others) s same = let l = least others (behind h others x said.1 s) (omega arith) in
        l.small (omega arith)

-- items that say an unsigned number as it is
plain-canonical : (p : ℕ) (k : ℕ → ItemType) (n : ℕ) (bs : List ℕ) → Behind bs (k n)
    → ((l : List ℕ) (m : ℕ) → Says l (k m) → word l ≡ m) → ((m : ℕ) → IsSaid (k m))
    → p < 0xf0 → data_length (p + 1) ≡ 1 → data_length (p + 2) ≡ 2 → data_length (p + 3) ≡ 4
    → ((a : ℕ) → item_of (p + 1) (a ∷ []) ≡ Ok (k (word (a ∷ []))))
    → ((a b : ℕ) → item_of (p + 2) (a ∷ b ∷ []) ≡ Ok (k (word (a ∷ b ∷ []))))
    → ((a b c d : ℕ) → item_of (p + 3) (a ∷ b ∷ c ∷ d ∷ []) ≡ Ok (k (word (a ∷ b ∷ c ∷ d ∷ []))))
    → IsCanonical (with_header p (unsigned_data n)) (k n)
plain-canonical p k n bs b says bare room one two four read_one read_two read_four =
    let small : n < 2 ^ 32 = omega (arith, says bs n b.says, word-fits bs b.are b.short b.known) in
    let spelled : Spells (with_header p (unsigned_data n)) (k (word (unsigned_data n))) =
    spelled-by p (λ l. k (word l)) (unsigned_data n) (are-unsigned n) (length-unsigned n) room one
    two four read_one read_two read_four in
    canonical-by (k n) p (unsigned_data n)
    (subst (λ m. Spells (with_header p (unsigned_data n)) (k m)) (word-unsigned n small)
    spelled) (bare n) (length-unsigned n).0
    (λ other o some. unsigned-least n other o.are some o.short o.known
    (omega (arith, says other n o.says)))

-- items that say a signed number
signed-canonical : (p : ℕ) (k : ℤ → ItemType) (z : ℤ) (bs : List ℕ) → Behind bs (k z)
    → ((l : List ℕ) (y : ℤ) → Says l (k y) → signed l ≡ y) → ((y : ℤ) → IsSaid (k y))
    → p < 0xf0 → data_length (p + 1) ≡ 1 → data_length (p + 2) ≡ 2 → data_length (p + 3) ≡ 4
    → ((a : ℕ) → item_of (p + 1) (a ∷ []) ≡ Ok (k (signed (a ∷ []))))
    → ((a b : ℕ) → item_of (p + 2) (a ∷ b ∷ []) ≡ Ok (k (signed (a ∷ b ∷ []))))
    → ((a b c d : ℕ) → item_of (p + 3) (a ∷ b ∷ c ∷ d ∷ []) ≡ Ok (k (signed (a ∷ b ∷ c ∷ d ∷ []))))
    → IsCanonical (with_header p (signed_data z)) (k z)
signed-canonical p k z bs b says bare room one two four read_one read_two read_four =
    let small : fits z 2147483648 = signed-fits-any z bs b.are b.short b.known (says bs z b.says) in
    let spelled : Spells (with_header p (signed_data z)) (k (signed (signed_data z))) =
    spelled-by p (λ l. k (signed l)) (signed_data z) (are-signed z) (shape-signed z) room one two
    four read_one read_two read_four in
    canonical-by (k z) p (signed_data z)
    (subst (λ y. Spells (with_header p (signed_data z)) (k y)) (signed-again z small) spelled)
    (bare z) (shape-signed z).0
    (λ other o some. signed-least z other o.are some o.short o.known (says other z o.says))

-- data items, by their flags
flags-canonical : (p : ℕ) (k : Flags → ItemType) (f g : Flags) (bs : List ℕ)
    → ((other : List ℕ) → Behind other (k f)
    → (g.buffered_bytes ≡ is_flag_set (word other) 8) × (flags_number g ≤ word other))
    → IsSaid (k f) → Spells (with_header p (flags_data g)) (k f)
    → IsCanonical (with_header p (flags_data g)) (k f)
flags-canonical p k f g bs says bare spelled =
    canonical-by (k f) p (flags_data g) spelled bare (length-flags g).0
    (λ other o some. let s = says other o in flags-least g other o.are some o.short o.known s.0 s.1)

flags-shape : (f : Flags) → HasShape (flags_data f)
flags-shape f = let l = length-flags f in (l.0, omega (arith, l.1), λ e. omega (arith, l.1))

canonical-page : (n : ℕ) (bs : List ℕ) → Behind bs (item.Global (global.UsagePage n))
    → IsCanonical (with_header 0x04 (unsigned_data n)) (item.Global (global.UsagePage n))
canonical-page n bs b =
    let says : word bs % 65536 ≡ n = b.says in
    let few : n < 65536 = omega arith in
    let same : word (unsigned_data n) % 65536 ≡ n = omega (arith, word-unsigned n (omega arith)) in
    canonical-by (item.Global (global.UsagePage n)) 0x04 (unsigned_data n)
    (subst (λ m. Spells (with_header 0x04 (unsigned_data n)) (item.Global (global.UsagePage m)))
    same
    (spelled-by 0x04 (λ l. item.Global (global.UsagePage (word l % 65536))) (unsigned_data n)
    (are-unsigned n) (length-unsigned n) (omega arith) refl refl refl (λ a. refl) (λ a b. refl)
    (λ a b c d. refl)))
    (refl, refl) (length-unsigned n).0
    (λ other o some. let low : word other % 65536 ≡ n = o.says in unsigned-least n other o.are some
    o.short o.known (omega arith))

-- one byte
byte-shape : (n : ℕ) → HasShape (n ∷ [])
byte-shape n = (omega arith, omega arith, λ e. omega arith)

byte-least : (n : ℕ) (other : List ℕ) → 0 < length other → (length other ≡ 1 → n ≤ word other)
    → IsLeast (n ∷ []) other
byte-least n other some low = record { short = omega arith; small = λ e. omega (arith, low e) }

canonical-id : (n : ℕ) (bs : List ℕ) → Behind bs (item.Global (global.ReportId n))
    → IsCanonical (with_header 0x84 (n ∷ [])) (item.Global (global.ReportId n))
canonical-id n bs b =
    let says : word bs % 256 ≡ n = b.says in
    let few : n < 256 = omega arith in
    let same : word (n ∷ []) % 256 ≡ n = omega arith in
    canonical-by (item.Global (global.ReportId n)) 0x84 (n ∷ [])
    (subst (λ m. Spells (with_header 0x84 (n ∷ [])) (item.Global (global.ReportId m))) same
    (spelled-by 0x84 (λ l. item.Global (global.ReportId (word l % 256))) (n ∷ []) (are-one n few)
    (byte-shape n) (omega arith) refl refl refl (λ a. refl) (λ a b. refl) (λ a b c d. refl)))
    (refl, refl) (omega arith)
    (λ other o some. byte-least n other some
    (λ e. let low : word other % 256 ≡ n = o.says in omega arith))

canonical-usage_id : (n : ℕ) (bs : List ℕ) → Behind bs (item.Local (local.UsageId n))
    → IsCanonical (with_header 0x08 (unsigned_data n)) (item.Local (local.UsageId n))
canonical-usage_id n bs b =
    let says : word bs % 65536 ≡ n = b.says in
    let few : n < 65536 = omega arith in
    let short : length (unsigned_data n) ≢ 4 = λ e. omega (arith, unsigned-two n few) in
    let same : word (unsigned_data n) % 65536 ≡ n = omega (arith, word-unsigned n (omega arith)) in
    let is : usage_item (word (unsigned_data n)) (length (unsigned_data n)) ≡ local.UsageId n =
    cond-false (length (unsigned_data n) == 4)
    (local.Usage (word (unsigned_data n) / 65536) (word (unsigned_data n) % 65536))
    (local.UsageId (word (unsigned_data n) % 65536)) (ne_eqb (length (unsigned_data n)) 4 short)
    ∙ ap (λ m. local.UsageId m) same in
    canonical-by (item.Local (local.UsageId n)) 0x08 (unsigned_data n)
    (subst (λ x. Spells (with_header 0x08 (unsigned_data n)) (item.Local x)) is
    (spelled-by 0x08 (λ l. item.Local (usage_item (word l) (length l))) (unsigned_data n)
    (are-unsigned n) (length-unsigned n) (omega arith) refl refl refl (λ a. refl) (λ a b. refl)
    (λ a b c d. refl)))
    (refl, refl) (length-unsigned n).0
    (λ other o some. let low : word other % 65536 ≡ n = o.says in unsigned-least n other o.are some
    o.short o.known (omega arith))

canonical-usage : (page id : ℕ) (bs : List ℕ) → Behind bs (item.Local (local.Usage page id))
    → IsCanonical (with_header 0x08 (four_bytes (page * 65536 + id)))
    (item.Local (local.Usage page id))
canonical-usage page id bs b =
    let says : (length bs ≡ 4) × (word bs / 65536 ≡ page) × (word bs % 65536 ≡ id) = b.says in
    let whole : word bs ≡ page * 65536 + id = omega arith in
    let small : page * 65536 + id < 2 ^ 32 = omega (arith, word-fits bs b.are b.short b.known) in
    let number = page * 65536 + id in
    let same : word (four_bytes number) ≡ number = word-four number small in
    let high : word (four_bytes number) / 65536 ≡ page = omega arith in
    let low : word (four_bytes number) % 65536 ≡ id = omega arith in
    canonical-by (item.Local (local.Usage page id)) 0x08 (four_bytes number)
    (subst (λ m. Spells (with_header 0x08 (four_bytes number)) (item.Local (local.Usage page m)))
    low
    (subst (λ m. Spells (with_header 0x08 (four_bytes number))
    (item.Local (local.Usage m (word (four_bytes number) % 65536)))) high
    (spelled-by 0x08 (λ l. item.Local (usage_item (word l) (length l))) (four_bytes number)
    (are-four number) (omega arith, omega arith, λ e. omega arith) (omega arith) refl refl refl
    (λ a. refl) (λ a b. refl) (λ a b c d. refl))))
    (refl, refl) (omega arith)
    (λ other o some.
    let own : (length other ≡ 4) × (word other / 65536 ≡ page) × (word other % 65536 ≡ id) =
    o.says in
    record { short = omega arith; small = λ e. omega (arith, same) })

-- the number of a kind is the byte that names it
kind-again : (n : ℕ) → n < 256 → kind_number (collection_item n) ≡ n
kind-again n small = grind (arith, nat_tests)

first-is-word : (l : List ℕ) → length l ≡ 1 → first_or_zero l ≡ word l
first-is-word [] e = absurd (omega arith)
first-is-word (a ∷ []) e = omega arith
first-is-word (a ∷ b ∷ l) e = absurd (omega arith)

first-small : (l : List ℕ) → AreBytes l → first_or_zero l < 256
first-small [] are = omega arith
first-small (a ∷ l) are = are 0 0 (omega arith)

canonical-collection : (k : CollectionItem) (bs : List ℕ)
    → Behind bs (item.Main (main.Collection k))
    → IsCanonical (with_header 0xa0 (kind_number k ∷ [])) (item.Main (main.Collection k))
canonical-collection k bs b =
    let says : collection_item (first_or_zero bs) ≡ k = b.says in
    let number : kind_number k ≡ first_or_zero bs = ap kind_number (sym says)
    ∙ kind-again (first_or_zero bs) (first-small bs b.are) in
    let small : kind_number k < 256 = omega (arith, first-small bs b.are) in
    let again : collection_item (kind_number k) ≡ k = ap collection_item number ∙ says in
    canonical-by (item.Main (main.Collection k)) 0xa0 (kind_number k ∷ [])
    (subst (λ x. Spells (with_header 0xa0 (kind_number k ∷ [])) (item.Main (main.Collection x)))
    again
    (spelled-by 0xa0 (λ l. item.Main (main.Collection (collection_item (first_or_zero l))))
    (kind_number k ∷ []) (are-one (kind_number k) small) (byte-shape (kind_number k))
    (omega arith) refl refl refl (λ a. refl) (λ a b. refl) (λ a b c d. refl)))
    (refl, refl) (omega arith)
    (λ other o some. byte-least (kind_number k) other some (λ e.
    let own : collection_item (first_or_zero other) ≡ k = o.says in
    let same : kind_number k ≡ first_or_zero other = ap kind_number (sym own)
    ∙ kind-again (first_or_zero other) (first-small other o.are) in
    omega (arith, first-is-word other e, same)))

canonical-output : (f : Flags) (bs : List ℕ) → Behind bs (item.Main (main.Output f))
    → IsCanonical (with_header 0x90 (flags_data f)) (item.Main (main.Output f))
canonical-output f bs b =
    flags-canonical 0x90 (λ g. item.Main (main.Output g)) f f bs
    (λ other o. let is : f ≡ flags_of (word other) = o.says in (
      ap (λ (g : Flags). g.buffered_bytes) is,
      subst (λ (g : Flags). flags_number g ≤ word other)
          (sym is) (number-le (word other)),
    ))
    (refl, refl)
    (subst (λ g. Spells (with_header 0x90 (flags_data f)) (item.Main (main.Output g)))
    (ap flags_of (word-flags f) ∙ flags-again f)
    (spelled-by 0x90 (λ l. item.Main (main.Output (flags_of (word l)))) (flags_data f) (are-flags f)
    (flags-shape f) (omega arith) refl refl refl (λ a. refl) (λ a b. refl) (λ a b c d. refl)))

canonical-feature : (f : Flags) (bs : List ℕ) → Behind bs (item.Main (main.Feature f))
    → IsCanonical (with_header 0xb0 (flags_data f)) (item.Main (main.Feature f))
canonical-feature f bs b =
    flags-canonical 0xb0 (λ g. item.Main (main.Feature g)) f f bs
    (λ other o. let is : f ≡ flags_of (word other) = o.says in (
      ap (λ (g : Flags). g.buffered_bytes) is,
      subst (λ (g : Flags). flags_number g ≤ word other)
          (sym is) (number-le (word other)),
    ))
    (refl, refl)
    (subst (λ g. Spells (with_header 0xb0 (flags_data f)) (item.Main (main.Feature g)))
    (ap flags_of (word-flags f) ∙ flags-again f)
    (spelled-by 0xb0 (λ l. item.Main (main.Feature (flags_of (word l)))) (flags_data f)
    (are-flags f) (flags-shape f) (omega arith) refl refl refl (λ a. refl) (λ a b. refl)
    (λ a b c d. refl)))

-- an Input without its flag 7
abbrev pub unvolatile : Flags → Flags
unvolatile f = record f { volatile = false }

canonical-input : (f : Flags) (bs : List ℕ) → Behind bs (item.Main (main.Input f))
    → IsCanonical (with_header 0x80 (flags_data (unvolatile f))) (item.Main (main.Input f))
canonical-input f bs b =
    let own : f ≡ unvolatile (flags_of (word bs)) = b.says in
    let plain : unvolatile f ≡ f = ap unvolatile own ∙ sym own in
    flags-canonical 0x80 (λ g. item.Main (main.Input g)) f (unvolatile f) bs
    (λ other o. let is : f ≡ unvolatile (flags_of (word other)) = o.says in (
      ap (λ (g : Flags). g.buffered_bytes) is,
      subst
          (λ (g : Flags). flags_number (unvolatile g) ≤ word other) (sym is)
          (let a = number-without (flags_of (word other)) in let c = number-le (word other) in omega
          arith),
    ))
    (refl, refl)
    (subst (λ g. Spells (with_header 0x80 (flags_data (unvolatile f))) (item.Main (main.Input g)))
    (ap (λ w. unvolatile (flags_of w)) (word-flags (unvolatile f))
    ∙ ap unvolatile (flags-again (unvolatile f)) ∙ plain)
    (spelled-by 0x80 (λ l. item.Main (main.Input (unvolatile (flags_of (word l)))))
    (flags_data (unvolatile f)) (are-flags (unvolatile f)) (flags-shape (unvolatile f))
    (omega arith) refl refl refl (λ a. refl) (λ a b. refl) (λ a b c d. refl)))

count-is : (n : ℕ) → n < 2 ^ 32 → count_data n ≡ unsigned_data n
count-is n small = cond-true (nat_lt n 4294967296) (unsigned_data n) (four_bytes (n % 4294967296))
    (lt-ltb n 4294967296 small)

-- an item that says all by its header
bare-canonical : (x : ItemType) (h : ℕ) → is_bare x ≡ true → h < 256 → following_length h [] ≡ 0
    → item_of h [] ≡ Ok x → IsCanonical (h ∷ []) x
bare-canonical x h bare small none reads = record {
  spells = (are-one h small, sym none, reads);
  bare = λ e. refl;
  has_data = λ e. cc;
  shortest = λ other s more. omega arith;
  smallest = λ other s same. omega arith;
}

-- what is written for an item that some bytes spell is its canonical spelling
canonical-main : (x : MainItem) (bs : List ℕ) → Behind bs (item.Main x)
    → IsCanonical (main_bytes x) (item.Main x)
canonical-main (main.Input f) bs b = canonical-input f bs b
canonical-main (main.Output f) bs b = canonical-output f bs b
canonical-main (main.Feature f) bs b = canonical-feature f bs b
canonical-main (main.Collection k) bs b = canonical-collection k bs b
canonical-main main.EndCollection bs b =
    bare-canonical (item.Main main.EndCollection) 0xc0 refl (omega arith) refl refl

canonical-global : (x : GlobalItem) (bs : List ℕ) → Behind bs (item.Global x)
    → is_kept (item.Global x) ≡ true → IsCanonical (global_bytes x) (item.Global x)
canonical-global (global.UsagePage n) bs b kept = canonical-page n bs b
canonical-global (global.LogicalMinimum z) bs b kept =
    signed-canonical 0x14 (λ y. item.Global (global.LogicalMinimum y)) z bs b (λ l y h. h)
    (λ y. (refl, refl)) (omega arith) refl refl refl (λ a. refl) (λ a c. refl) (λ a c d e. refl)
canonical-global (global.LogicalMaximum z) bs b kept =
    signed-canonical 0x24 (λ y. item.Global (global.LogicalMaximum y)) z bs b (λ l y h. h)
    (λ y. (refl, refl)) (omega arith) refl refl refl (λ a. refl) (λ a c. refl) (λ a c d e. refl)
canonical-global (global.PhysicalMinimum z) bs b kept =
    signed-canonical 0x34 (λ y. item.Global (global.PhysicalMinimum y)) z bs b (λ l y h. h)
    (λ y. (refl, refl)) (omega arith) refl refl refl (λ a. refl) (λ a c. refl) (λ a c d e. refl)
canonical-global (global.PhysicalMaximum z) bs b kept =
    signed-canonical 0x44 (λ y. item.Global (global.PhysicalMaximum y)) z bs b (λ l y h. h)
    (λ y. (refl, refl)) (omega arith) refl refl refl (λ a. refl) (λ a c. refl) (λ a c d e. refl)
canonical-global (global.UnitExponent z) bs b kept =
    signed-canonical 0x54 (λ y. item.Global (global.UnitExponent y)) z bs b (λ l y h. h)
    (λ y. (refl, refl)) (omega arith) refl refl refl (λ a. refl) (λ a c. refl) (λ a c d e. refl)
canonical-global (global.Unit n) bs b kept =
    plain-canonical 0x64 (λ m. item.Global (global.Unit m)) n bs b (λ l m h. h) (λ m. (refl, refl))
    (omega arith) refl refl refl (λ a. refl) (λ a c. refl) (λ a c d e. refl)
canonical-global (global.ReportSize n) bs b kept =
    let says : word bs ≡ n = b.says in
    let small : n < 2 ^ 32 = omega (arith, word-fits bs b.are b.short b.known) in
    subst (λ l. IsCanonical (with_header 0x74 l) (item.Global (global.ReportSize n)))
    (sym (count-is n small))
    (plain-canonical 0x74 (λ m. item.Global (global.ReportSize m)) n bs b (λ l m h. h)
    (λ m. (refl, refl)) (omega arith) refl refl refl (λ a. refl) (λ a c. refl)
    (λ a c d e. refl))
canonical-global (global.ReportCount n) bs b kept =
    let says : word bs ≡ n = b.says in
    let small : n < 2 ^ 32 = omega (arith, word-fits bs b.are b.short b.known) in
    subst (λ l. IsCanonical (with_header 0x94 l) (item.Global (global.ReportCount n)))
    (sym (count-is n small))
    (plain-canonical 0x94 (λ m. item.Global (global.ReportCount m)) n bs b (λ l m h. h)
    (λ m. (refl, refl)) (omega arith) refl refl refl (λ a. refl) (λ a c. refl)
    (λ a c d e. refl))
canonical-global (global.ReportId n) bs b kept = canonical-id n bs b
canonical-global global.Push bs b kept =
    bare-canonical (item.Global global.Push) 0xa4 refl (omega arith) refl refl
canonical-global global.Pop bs b kept =
    bare-canonical (item.Global global.Pop) 0xb4 refl (omega arith) refl refl
canonical-global global.Reserved bs b kept = cc

canonical-local : (x : LocalItem) (bs : List ℕ) → Behind bs (item.Local x)
    → is_kept (item.Local x) ≡ true → IsCanonical (local_bytes x) (item.Local x)
canonical-local (local.Usage page id) bs b kept = canonical-usage page id bs b
canonical-local (local.UsageId n) bs b kept = canonical-usage_id n bs b
canonical-local (local.UsageMinimum n) bs b kept =
    plain-canonical 0x18 (λ m. item.Local (local.UsageMinimum m)) n bs b (λ l m h. h)
    (λ m. (refl, refl)) (omega arith) refl refl refl (λ a. refl) (λ a c. refl) (λ a c d e. refl)
canonical-local (local.UsageMaximum n) bs b kept =
    plain-canonical 0x28 (λ m. item.Local (local.UsageMaximum m)) n bs b (λ l m h. h)
    (λ m. (refl, refl)) (omega arith) refl refl refl (λ a. refl) (λ a c. refl) (λ a c d e. refl)
canonical-local (local.DesignatorIndex n) bs b kept =
    plain-canonical 0x38 (λ m. item.Local (local.DesignatorIndex m)) n bs b (λ l m h. h)
    (λ m. (refl, refl)) (omega arith) refl refl refl (λ a. refl) (λ a c. refl) (λ a c d e. refl)
canonical-local (local.DesignatorMinimum n) bs b kept =
    plain-canonical 0x48 (λ m. item.Local (local.DesignatorMinimum m)) n bs b (λ l m h. h)
    (λ m. (refl, refl)) (omega arith) refl refl refl (λ a. refl) (λ a c. refl) (λ a c d e. refl)
canonical-local (local.DesignatorMaximum n) bs b kept =
    plain-canonical 0x58 (λ m. item.Local (local.DesignatorMaximum m)) n bs b (λ l m h. h)
    (λ m. (refl, refl)) (omega arith) refl refl refl (λ a. refl) (λ a c. refl) (λ a c d e. refl)
canonical-local (local.StringIndex n) bs b kept =
    plain-canonical 0x78 (λ m. item.Local (local.StringIndex m)) n bs b (λ l m h. h)
    (λ m. (refl, refl)) (omega arith) refl refl refl (λ a. refl) (λ a c. refl) (λ a c d e. refl)
canonical-local (local.StringMinimum n) bs b kept =
    plain-canonical 0x88 (λ m. item.Local (local.StringMinimum m)) n bs b (λ l m h. h)
    (λ m. (refl, refl)) (omega arith) refl refl refl (λ a. refl) (λ a c. refl) (λ a c d e. refl)
canonical-local (local.StringMaximum n) bs b kept =
    plain-canonical 0x98 (λ m. item.Local (local.StringMaximum m)) n bs b (λ l m h. h)
    (λ m. (refl, refl)) (omega arith) refl refl refl (λ a. refl) (λ a c. refl) (λ a c d e. refl)
canonical-local (local.Delimiter n) bs b kept =
    plain-canonical 0xa8 (λ m. item.Local (local.Delimiter m)) n bs b (λ l m h. h)
    (λ m. (refl, refl)) (omega arith) refl refl refl (λ a. refl) (λ a c. refl) (λ a c d e. refl)
canonical-local (local.Reserved value) bs b kept = cc

canonical-behind : (x : ItemType) (bs : List ℕ) → Behind bs x → is_kept x ≡ true
    → IsCanonical (item_bytes x) x
canonical-behind (item.Main x) bs b kept = canonical-main x bs b
canonical-behind (item.Global x) bs b kept = canonical-global x bs b kept
canonical-behind (item.Local x) bs b kept = canonical-local x bs b kept
canonical-behind item.Long bs b kept = cc
canonical-behind item.Reserved bs b kept = cc

pub canonical : (x : ItemType) (spelling : List ℕ) → Spells spelling x → is_kept x ≡ true
    → IsCanonical (item_bytes x) x
canonical x [] s kept = absurd s
canonical x (h ∷ bs) s kept = canonical-behind x bs (behind h bs x kept s) kept

pub writes-canonical : (r : Result (Vec ℕ Global) HidError) (x : ItemType) → Writes r (item_bytes x)
    → (spelling : List ℕ) → Spells spelling x → is_kept x ≡ true
    → IfOk r (λ (bytes : Vec ℕ Global). IsCanonical bytes.items x)
writes-canonical (Ok bytes) x w spelling s kept =
    subst (λ l. IsCanonical l x) (sym w) (canonical x spelling s kept)
writes-canonical (Err e) x w spelling s kept = tt

reads-spelled : (bytes : List ℕ) (x : ItemType) → Spells bytes x → read_with item_of bytes ≡ Ok x
reads-spelled [] x s = absurd s
reads-spelled (h ∷ bs) x s = s.2

pub writes-read_back : (r : Result (Vec ℕ Global) HidError) (x : ItemType) → Writes r (item_bytes x)
    → (spelling : List ℕ) → Spells spelling x → is_kept x ≡ true
    → IfOk r (λ (bytes : Vec ℕ Global). read_with item_of bytes.items ≡ Ok x)
writes-read_back (Ok bytes) x w spelling s kept =
    reads-spelled bytes.items x (subst (λ l. Spells l x) (sym w)
    (canonical x spelling s kept).spells)
writes-read_back (Err e) x w spelling s kept = tt
