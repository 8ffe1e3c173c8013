-- One item of a descriptor, as hid-core reads it.
use Rattle.std.proofs.Common.{◌≡◌, ◌∙◌, ◌-◌, ◌∷◌, ap, ℕ, List, drop, false, length, nat_lt, None, Option, refl, Some, suc, sym, take, true}
use Rattle.hidreport_items.specs.Spelling.{data_length}
use Rattle.hidreport_linux.specs.CoreItems.{core_item}
use Rattle.hidreport_linux.specs.CoreKept.{ReadingRecord}
use Rattle.hidreport_linux.specs.CoreReading.{behind, read_all, refusal_of, refused}
use Rattle.hidreport_linux.specs.declared.reading.core_item.CoreItem.{CoreItem}
use Rattle.hidreport_linux.specs.declared.reading.reasons.RefusalReason.{RefusalReason}
use Rattle.hidreport_linux.specs.declared.reading.reasons.RefusalReason.TheVariants.{CutShort}

-- an item that is refused is the last
pub read-refused : (n total h : ℕ) (bs : List ℕ) (reason : RefusalReason) (r : ReadingRecord)
    → nat_lt (length bs) (data_length h) ≡ false
    → refusal_of (core_item h (take (data_length h) bs)) r ≡ Some reason
    → read_all (suc n) total (h ∷ bs) r ≡ refused (total - length (h ∷ bs)) reason r
read-refused n total h bs reason r enough is = rw enough (rw is refl)

-- an item that is cut short is the last
pub read-cut : (n total h : ℕ) (bs : List ℕ) (r : ReadingRecord)
    → nat_lt (length bs) (data_length h) ≡ true
    → read_all (suc n) total (h ∷ bs) r ≡ refused (total - length (h ∷ bs)) CutShort r
read-cut n total h bs r short = rw short refl

-- the same, as it is read
pub read-cut-at : (left n total h offset : ℕ) (bs rest : List ℕ) (r new : ReadingRecord)
    → left ≡ suc n → rest ≡ h ∷ bs → nat_lt (length bs) (data_length h) ≡ true
    → offset ≡ total - length rest → new ≡ refused offset CutShort r
    → new ≡ read_all left total rest r
read-cut-at left n total h offset bs rest r new more first short at becomes =
    becomes ∙ ap (λ o. refused o CutShort r) (at ∙ ap (λ l. total - length l) first)
    ∙ sym (read-cut n total h bs r short)
    ∙ sym (ap (λ m. read_all m total rest r) more ∙ ap (λ l. read_all (suc n) total l r) first)

-- behind another the rest is read
pub read-on : (n total h : ℕ) (bs : List ℕ) (r : ReadingRecord)
    → nat_lt (length bs) (data_length h) ≡ false
    → refusal_of (core_item h (take (data_length h) bs)) r ≡ None
    → read_all (suc n) total (h ∷ bs) r
    ≡ read_all n total (drop (data_length h) bs)
    (behind (total - length (h ∷ bs)) (core_item h (take (data_length h) bs)) r)
read-on n total h bs r enough is = rw enough (rw is refl)

-- the item of the bytes that a header announces
item-whole : (h size : ℕ) (bs bytes : List ℕ) (x : CoreItem)
    → size ≡ data_length h → bytes ≡ take size bs → x ≡ core_item h bytes
    → x ≡ core_item h (take (data_length h) bs)
item-whole h size bs bytes x is_size cut item =
    item ∙ ap (core_item h) (cut ∙ ap (λ s. take s bs) is_size)

-- the same, as it is read
pub read-refused-at : (left n total h size offset : ℕ) (bs rest bytes : List ℕ) (x : CoreItem)
    (result : Option RefusalReason) (reason : RefusalReason) (r new : ReadingRecord)
    → left ≡ suc n → rest ≡ h ∷ bs → size ≡ data_length h
    → nat_lt (length bs) (data_length h) ≡ false → bytes ≡ take size bs
    → x ≡ core_item h bytes → result ≡ refusal_of x r → result ≡ Some reason
    → offset ≡ total - length rest → new ≡ refused offset reason r
    → new ≡ read_all left total rest r
read-refused-at left n total h size offset bs rest bytes x result reason r new more first is_size
    enough cut item is some at becomes =
    becomes ∙ ap (λ o. refused o reason r) (at ∙ ap (λ l. total - length l) first)
    ∙ sym (read-refused n total h bs reason r enough
    (sym (ap (λ y. refusal_of y r) (item-whole h size bs bytes x is_size cut item)) ∙ sym is ∙ some))
    ∙ sym (ap (λ m. read_all m total rest r) more ∙ ap (λ l. read_all (suc n) total l r) first)

pub read-on-at : (left n total h size offset : ℕ) (bs rest bytes more : List ℕ) (x : CoreItem)
    (result : Option RefusalReason) (r new : ReadingRecord)
    → left ≡ suc n → rest ≡ h ∷ bs → size ≡ data_length h
    → nat_lt (length bs) (data_length h) ≡ false → bytes ≡ take size bs → more ≡ drop size bs
    → x ≡ core_item h bytes → result ≡ refusal_of x r → result ≡ None
    → offset ≡ total - length rest → new ≡ behind offset x r
    → read_all n total more new ≡ read_all left total rest r
read-on-at left n total h size offset bs rest bytes more x result r new is_more first is_size enough
    cut after item is none at becomes =
    let whole = item-whole h size bs bytes x is_size cut item in
    ap (λ l. read_all n total l new) (after ∙ ap (λ s. drop s bs) is_size)
    ∙ ap (read_all n total (drop (data_length h) bs)) (becomes
    ∙ ap (λ o. behind o x r) (at ∙ ap (λ l. total - length l) first)
    ∙ ap (λ y. behind (total - length (h ∷ bs)) y r) whole)
    ∙ sym (read-on n total h bs r enough
    (sym (ap (λ y. refusal_of y r) whole) ∙ sym is ∙ none))
    ∙ sym (ap (λ m. read_all m total rest r) is_more ∙ ap (λ l. read_all (suc n) total l r) first)
