-- Items that bytes are cut into, or aren't.
use Rattle.std.specs.Prelude.{ℕ, List, [], ◌∷◌}
use Rattle.hidreport.specs.Entry.{Entry}
use Rattle.hidreport.specs.GlobalItem.TheVariants as global
use Rattle.hidreport.specs.ItemType.TheVariants as item

-- a page of so much, in the bytes `05 01`, and a Pop, at these offsets
abbrev pub page_at : ℕ → ℕ → Entry
page_at offset page =
    record { offset = offset; bytes = 0x05 ∷ 0x01 ∷ []; item = item.Global (global.UsagePage page) }

abbrev pub pop_at : ℕ → Entry
pop_at offset = record { offset = offset; bytes = 0xb4 ∷ []; item = item.Global global.Pop }

-- of `05 01 b4`
abbrev pub page_and_pop : List Entry
page_and_pop = page_at 0 1 ∷ pop_at 2 ∷ []

-- the same at other offsets: from 1 on, and with a gap
abbrev pub begun_late : List Entry
begun_late = page_at 1 1 ∷ pop_at 3 ∷ []

abbrev pub pop_late : List Entry
pop_late = page_at 0 1 ∷ pop_at 3 ∷ []

-- of `05 01`, but with another page
abbrev pub another_page : List Entry
another_page = page_at 0 2 ∷ []

-- of `fe 01 f0 c0`
abbrev pub long_alone : List Entry
long_alone =
    record { offset = 0; bytes = 0xfe ∷ 1 ∷ 0xf0 ∷ 0xc0 ∷ []; item = item.Long } ∷ []

-- the same where the Pop stands at an offset
abbrev pub page_and_pop_at : ℕ → List Entry
page_and_pop_at offset = page_at 0 1 ∷ pop_at offset ∷ []

-- of `05 01 a4 b4 b4`
abbrev pub pushed_and_popped : List Entry
pushed_and_popped = page_at 0 1
    ∷ record { offset = 2; bytes = 0xa4 ∷ []; item = item.Global global.Push }
    ∷ pop_at 3 ∷ pop_at 4 ∷ []
