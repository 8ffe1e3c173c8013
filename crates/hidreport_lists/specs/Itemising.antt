-- A descriptor's bytes as a list of items (Section 6.2.2.1): each item begins where the one before
-- it ends.
-- `read` gives the item of a header and its data, or why they are none.
use Rattle.std.specs.Prelude.{◌≡◌, ◌≢◌, ℕ, ◌+◌, zero, suc, nat_lt, if◌then◌else◌, List, [], ◌∷◌}
use Rattle.std.specs.Prelude.{◌++◌, length, take, flat_map, Result, Ok, Err, string_bytes}
use Rattle.hidreport_items.specs.Answer.{GrammarFault, Invalid, Insufficient}
use Rattle.hidreport_items.specs.Messages.{long_message, not_long_message}
use Rattle.hidreport_items.specs.Spelling.{following_length, is_long_header, AreBytes, read_as}
use Rattle.hidreport_items.specs.declared.item.ItemType.{ItemType}
use Rattle.hidreport_lists.specs.Answer.{Refusal, InvalidData}
use Rattle.hidreport_lists.specs.Entry.{Spelled, Entry}
use Rattle.hidreport_lists.specs.Messages.{grammar_message}
use Rattle.hidreport_lists.specs.declared.error.ParserError.{ParserError}
use Rattle.hidreport_lists.specs.declared.error.ParserError.TheVariants as errors

-- how an item is read from its header and its data
abbrev pub Reader : Type 0
Reader = ℕ → List ℕ → Result ItemType GrammarFault

-- the bytes are a header and just those that follow it, and are read as the item
abbrev pub Reads : Reader → List ℕ → ItemType → Type 0
Reads read [] x = ⊥
Reads read (h ∷ bs) x = AreBytes (h ∷ bs) × (length bs ≡ following_length h bs) × (read h bs ≡ Ok x)

-- the bytes of all these items, joined
abbrev pub all_bytes : List Entry → List ℕ
all_bytes entries = flat_map (λ e. e.bytes) entries

-- each item stands behind all bytes of those before it
abbrev pub AreAtOffsets : ℕ → List Entry → Type 0
AreAtOffsets offset [] = Unit {0}
AreAtOffsets offset (e ∷ entries) = (e.offset ≡ offset)
    × AreAtOffsets (offset + length e.bytes) entries

-- each item's bytes spell it
abbrev pub AreRead : Reader → List Entry → Type 0
AreRead read [] = Unit {0}
AreRead read (e ∷ entries) = Reads read e.bytes e.item × AreRead read entries

-- the bytes are these items, and there are some
pub record Itemises (read : Reader) (bytes : List ℕ) (entries : List Entry) : Type 0 where
  pub some : bytes ≢ []
  pub whole : all_bytes entries ≡ bytes
  pub each : AreRead read entries
  pub offsets : AreAtOffsets 0 entries

-- what the first item of h and the bytes after it is, or why there is none
abbrev pub item_at : Reader → ℕ → List ℕ → Result ItemType GrammarFault
item_at read h bs =
    if nat_lt (length bs) (following_length h bs) then Err Insufficient
    else read h (take (following_length h bs) bs)

-- The bytes before the offset are items, or none; no beginning of the rest, which isn't empty, is
-- one, and this is why.
pub record IsFaultAt (read : Reader) (bytes : List ℕ) (offset : ℕ)
    (fault : GrammarFault) : Type 0 where
  pub entries : List Entry
  pub header : ℕ
  pub after : List ℕ
  pub whole : all_bytes entries ++ header ∷ after ≡ bytes
  pub each : AreRead read entries
  pub starts : length (all_bytes entries) ≡ offset
  pub none : (n : ℕ) (x : ItemType) → Reads read (take n (header ∷ after)) x → ⊥
  pub why : item_at read header after ≡ Err fault

-- the error is data that can't be read, where the bytes have this fault, and says why; want of
-- memory says nothing
abbrev pub IsGrammarFault : Reader → List ℕ → ParserError → Type 0
IsGrammarFault read bytes (errors.InvalidData offset message) =
    (fault : GrammarFault) × IsFaultAt read bytes offset fault
    × (string_bytes message ≡ grammar_message fault)
IsGrammarFault read bytes errors.OutOfBounds = ⊥
IsGrammarFault read bytes errors.MismatchingReportId = ⊥
IsGrammarFault read bytes errors.OutOfMemory = Unit {0}
IsGrammarFault read bytes (errors.BudgetExceeded offset) = ⊥

-- an item before others, unless it or they can't be read
abbrev pub with_entry : ℕ → List ℕ → Result ItemType GrammarFault
    → Result (List Entry) (ℕ × GrammarFault)
    → Result (List Entry) (ℕ × GrammarFault)
with_entry offset bytes (Err fault) rest = Err (offset, fault)
with_entry offset bytes (Ok x) (Err fault) = Err fault
with_entry offset bytes (Ok x) (Ok entries) =
    Ok (record { offset = offset; bytes = bytes; item = x } ∷ entries)

-- The items of the bytes, of which the first stands at the offset; a count of them still belongs to
-- the item before. What can't be read comes with its offset.
abbrev pub items_from : Reader → ℕ → ℕ → List ℕ → Result (List Entry) (ℕ × GrammarFault)
items_from read offset inside [] = Ok []
items_from read offset zero (h ∷ bs) =
    with_entry offset (h ∷ take (following_length h bs) bs) (item_at read h bs)
    (items_from read (offset + 1) (following_length h bs) bs)
items_from read offset (suc inside) (b ∷ bs) = items_from read (offset + 1) inside bs

-- the items of a descriptor, or its grammar fault
abbrev pub itemise : Reader → List ℕ → Result (List Entry) (ℕ × GrammarFault)
itemise read [] = Err (0, Insufficient)
itemise read (b ∷ bs) = items_from read 0 0 (b ∷ bs)

-- a grammar fault as a parser says it
abbrev pub as_refusal : {A : Type 0} → Result A (ℕ × GrammarFault) → Result A Refusal
as_refusal (Ok x) = Ok x
as_refusal (Err fault) = Err (InvalidData fault.0 (grammar_message fault.1))

-- the item at the front of the bytes, with the bytes that spell it
abbrev pub front_item : Reader → List ℕ → Result Spelled GrammarFault
front_item read [] = Err Insufficient
front_item read (h ∷ bs) =
    read_as (λ x. record { bytes = h ∷ take (following_length h bs) bs; item = x })
    (item_at read h bs)

-- the same, of a short item alone (Section 6.2.2.2)
abbrev pub short_item : Reader → List ℕ → Result Spelled GrammarFault
short_item read [] = Err Insufficient
short_item read (h ∷ bs) =
    if is_long_header h then Err (Invalid long_message) else front_item read (h ∷ bs)

-- a header and all that follows it, where these bytes have so much
abbrev pub whole_item : ℕ → List ℕ → Result (List ℕ) GrammarFault
whole_item h bs =
    if nat_lt (length bs) (following_length h bs) then Err Insufficient
    else Ok (h ∷ take (following_length h bs) bs)

-- the bytes of the long item at the front of the bytes (Section 6.2.2.3)
abbrev pub long_item : List ℕ → Result (List ℕ) GrammarFault
long_item [] = Err Insufficient
long_item (h ∷ bs) =
    if is_long_header h then whole_item h bs else Err (Invalid not_long_message)
