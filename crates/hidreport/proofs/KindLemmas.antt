-- What a header alone says of its item: of a data item and of a maximum the whole outline.
use Rattle.std.proofs.Common.{◌≡◌, ℕ, ◌+◌, ◌%◌, Bool, true, false, cond, List, [], ◌∷◌}
use Rattle.std.proofs.Common.{length, Option, None, Some, Result, Ok, Err, refl, sym, ap, ◌∙◌, subst}
use Rattle.std.proofs.Common.{arith}
use Rattle.std.specs.Prelude.{pos, ◌==◌}
use Rattle.std.proofs.lemmas.Bool.{eqb-true}
use Rattle.hidreport_items.specs.Answer.{GrammarFault, Invalid}
use Rattle.hidreport_items.specs.Flags.{Flags, flags_of}
use Rattle.hidreport_items.specs.Messages.{size_message, tag_message}
use Rattle.hidreport_items.specs.Numbers.{is_short_length, signed, word}
use Rattle.hidreport_items.specs.Spelling.{collection_of, data_length, feature_item, following_length}
use Rattle.hidreport_items.specs.Spelling.{global_item, input_item, is_long_header, item_of, local_item}
use Rattle.hidreport_items.specs.Spelling.{main_item, output_item, prefix, read_as, type_of, with_data}
use Rattle.hidreport_items.specs.declared.global.GlobalItem.{GlobalItem}
use Rattle.hidreport_items.specs.declared.global.GlobalItem.TheVariants as global
use Rattle.hidreport_items.specs.declared.item.ItemType.{ItemType}
use Rattle.hidreport_items.specs.declared.item.ItemType.TheVariants as item
use Rattle.hidreport_items.specs.declared.local.LocalItem.{LocalItem}
use Rattle.hidreport_items.specs.declared.main_item.CollectionItem.{CollectionItem}
use Rattle.hidreport_items.specs.declared.main_item.MainItem.TheVariants as main
use Rattle.hidreport_items.proofs.FollowingLemmas.{short-follow}
use Rattle.hidreport.proofs.OutlineLemmas.{outline}

-- the outline of a data item or of a maximum
abbrev pub kind : ItemType → Option ItemType
kind (item.Main (main.Input flags)) = Some (item.Main (main.Input (flags_of 0)))
kind (item.Main (main.Output flags)) = Some (item.Main (main.Output (flags_of 0)))
kind (item.Main (main.Feature flags)) = Some (item.Main (main.Feature (flags_of 0)))
kind (item.Global (global.LogicalMaximum n)) = Some (item.Global (global.LogicalMaximum (pos 0)))
kind (item.Global (global.PhysicalMaximum n)) = Some (item.Global (global.PhysicalMaximum (pos 0)))
kind x = None

pub kind-outline : (x z : ItemType) → kind x ≡ Some z → outline x ≡ z
kind-outline (item.Main (main.Input flags)) z e = cc
kind-outline (item.Main (main.Output flags)) z e = cc
kind-outline (item.Main (main.Feature flags)) z e = cc
kind-outline (item.Global (global.LogicalMaximum n)) z e = cc
kind-outline (item.Global (global.PhysicalMaximum n)) z e = cc
kind-outline x z e = cc

-- the kind by the type and the tag
abbrev kind_of_main : ℕ → Option ItemType
kind_of_main p =
    cond (p == 0x80) (Some (item.Main (main.Input (flags_of 0))))
    (cond (p == 0x90) (Some (item.Main (main.Output (flags_of 0))))
    (cond (p == 0xa0) None
    (cond (p == 0xb0) (Some (item.Main (main.Feature (flags_of 0)))) None)))

abbrev kind_of_global : ℕ → Option ItemType
kind_of_global p =
    cond (p == 0x04) None
    (cond (p == 0x14) None
    (cond (p == 0x24) (Some (item.Global (global.LogicalMaximum (pos 0))))
    (cond (p == 0x34) None
    (cond (p == 0x44) (Some (item.Global (global.PhysicalMaximum (pos 0)))) None))))

abbrev kind_by : ℕ → ℕ → Option ItemType
kind_by t p = cond (t == 0) (kind_of_main p) (cond (t == 1) (kind_of_global p) None)

kind-local : (r : Result LocalItem GrammarFault) (x : ItemType) → read_as item.Local r ≡ Ok x
    → kind x ≡ None
kind-local (Ok y) x e = let same : item.Local y ≡ x = cc in sym (ap kind same)
kind-local (Err fault) x e = cc

kind-main : (a b c d e : Bool) (i o f : Result Flags GrammarFault)
    (k : Result CollectionItem GrammarFault) (fault : GrammarFault) (x : ItemType)
    → read_as item.Main (cond a (read_as main.Input i)
    (cond b (read_as main.Output o)
    (cond c (read_as main.Collection k)
    (cond d (read_as main.Feature f)
    (cond e (Ok main.EndCollection) (Err fault)))))) ≡ Ok x
    → kind x ≡ cond a (Some (item.Main (main.Input (flags_of 0))))
    (cond b (Some (item.Main (main.Output (flags_of 0))))
    (cond c None
    (cond d (Some (item.Main (main.Feature (flags_of 0)))) None)))
kind-main true b c d e (Ok g) o f k fault x is =
    let same : item.Main (main.Input g) ≡ x = cc in sym (ap kind same)
kind-main true b c d e (Err g) o f k fault x is = cc
kind-main false true c d e i (Ok g) f k fault x is =
    let same : item.Main (main.Output g) ≡ x = cc in sym (ap kind same)
kind-main false true c d e i (Err g) f k fault x is = cc
kind-main false false true d e i o f (Ok g) fault x is =
    let same : item.Main (main.Collection g) ≡ x = cc in sym (ap kind same)
kind-main false false true d e i o f (Err g) fault x is = cc
kind-main false false false true e i o (Ok g) k fault x is =
    let same : item.Main (main.Feature g) ≡ x = cc in sym (ap kind same)
kind-main false false false true e i o (Err g) k fault x is = cc
kind-main false false false false true i o f k fault x is =
    let same : item.Main main.EndCollection ≡ x = cc in sym (ap kind same)
kind-main false false false false false i o f k fault x is = cc

-- any of the other global items
kind-data : (bs : List ℕ) (y : GlobalItem) (x : ItemType)
    → read_as item.Global (with_data bs (Ok y)) ≡ Ok x → item.Global y ≡ x
kind-data [] y x e = cc
kind-data (b ∷ bs) y x e = cc

kind-rest : (a b c d e f : Bool) (bs : List ℕ) (x : ItemType)
    → read_as item.Global (cond a (Ok (global.Unit (word bs)))
    (cond b (with_data bs (Ok (global.ReportSize (word bs))))
    (cond c (with_data bs (Ok (global.ReportId (word bs % 256))))
    (cond d (with_data bs (Ok (global.ReportCount (word bs))))
    (cond e (Ok global.Push) (cond f (Ok global.Pop) (Ok global.Reserved))))))) ≡ Ok x
    → kind x ≡ None
kind-rest true b c d e f bs x is =
    let same : item.Global (global.Unit (word bs)) ≡ x = cc in sym (ap kind same)
kind-rest false true c d e f bs x is =
    sym (ap kind (kind-data bs (global.ReportSize (word bs)) x is))
kind-rest false false true d e f bs x is =
    sym (ap kind (kind-data bs (global.ReportId (word bs % 256)) x is))
kind-rest false false false true e f bs x is =
    sym (ap kind (kind-data bs (global.ReportCount (word bs)) x is))
kind-rest false false false false true f bs x is =
    let same : item.Global global.Push ≡ x = cc in sym (ap kind same)
kind-rest false false false false false true bs x is =
    let same : item.Global global.Pop ≡ x = cc in sym (ap kind same)
kind-rest false false false false false false bs x is =
    let same : item.Global global.Reserved ≡ x = cc in sym (ap kind same)

kind-global : (s a b c d e f : Bool) (fault : GrammarFault) (rest : Result GlobalItem GrammarFault)
    (bs : List ℕ) (x : ItemType) → (read_as item.Global rest ≡ Ok x → kind x ≡ None)
    → read_as item.Global (cond s (cond a (Ok (global.UsagePage (word bs % 65536)))
    (cond b (Ok (global.LogicalMinimum (signed bs)))
    (cond c (Ok (global.LogicalMaximum (signed bs)))
    (cond d (Ok (global.PhysicalMinimum (signed bs)))
    (cond e (Ok (global.PhysicalMaximum (signed bs)))
    (cond f (Ok (global.UnitExponent (signed bs))) rest)))))) (Err fault)) ≡ Ok x
    → kind x ≡ cond a None
    (cond b None
    (cond c (Some (item.Global (global.LogicalMaximum (pos 0))))
    (cond d None
    (cond e (Some (item.Global (global.PhysicalMaximum (pos 0)))) None))))
kind-global false a b c d e f fault rest bs x others is = cc
kind-global true true b c d e f fault rest bs x others is =
    let same : item.Global (global.UsagePage (word bs % 65536)) ≡ x = cc in sym (ap kind same)
kind-global true false true c d e f fault rest bs x others is =
    let same : item.Global (global.LogicalMinimum (signed bs)) ≡ x = cc in sym (ap kind same)
kind-global true false false true d e f fault rest bs x others is =
    let same : item.Global (global.LogicalMaximum (signed bs)) ≡ x = cc in sym (ap kind same)
kind-global true false false false true e f fault rest bs x others is =
    let same : item.Global (global.PhysicalMinimum (signed bs)) ≡ x = cc in sym (ap kind same)
kind-global true false false false false true f fault rest bs x others is =
    let same : item.Global (global.PhysicalMaximum (signed bs)) ≡ x = cc in sym (ap kind same)
kind-global true false false false false false true fault rest bs x others is =
    let same : item.Global (global.UnitExponent (signed bs)) ≡ x = cc in sym (ap kind same)
kind-global true false false false false false false fault rest bs x others is = others is

kind-item : (a b c d : Bool) (h : ℕ) (bs : List ℕ) (x : ItemType)
    → cond a (read_as item.Main (main_item h bs))
    (cond b (read_as item.Global (global_item h bs))
    (cond c (read_as item.Local (local_item h bs))
    (cond d (Ok item.Long) (Ok item.Reserved)))) ≡ Ok x
    → kind x ≡ cond a (kind_of_main (prefix h)) (cond b (kind_of_global (prefix h)) None)
kind-item true b c d h bs x is =
    kind-main (prefix h == 0x80) (prefix h == 0x90) (prefix h == 0xa0) (prefix h == 0xb0)
    (prefix h == 0xc0) (input_item bs) (output_item bs) (feature_item bs) (collection_of bs)
    (Invalid (tag_message (prefix h))) x is
kind-item false true c d h bs x is =
    kind-global (is_short_length (length bs)) (prefix h == 0x04) (prefix h == 0x14)
    (prefix h == 0x24) (prefix h == 0x34) (prefix h == 0x44) (prefix h == 0x54)
    (Invalid (size_message (length bs))) _ bs x
    (kind-rest (prefix h == 0x64) (prefix h == 0x74) (prefix h == 0x84) (prefix h == 0x94)
    (prefix h == 0xa4) (prefix h == 0xb4) bs x) is
kind-item false false true d h bs x is = kind-local (local_item h bs) x is
kind-item false false false true h bs x is =
    let same : item.Long ≡ x = cc in sym (ap kind same)
kind-item false false false false h bs x is =
    let same : item.Reserved ≡ x = cc in sym (ap kind same)

-- the header alone says the kind
kind-header : (h : ℕ) (bs : List ℕ) (x : ItemType) → item_of h bs ≡ Ok x
    → kind x ≡ kind_by (type_of h) (prefix h)
kind-header h bs x is = kind-item (type_of h == 0) (type_of h == 1) (type_of h == 2)
    (is_long_header h) h bs x is

-- what is read with another size or other data is of the same kind
pub kind-again : (h other : ℕ) (bs cs : List ℕ) (x y : ItemType) → item_of h bs ≡ Ok x
    → item_of other cs ≡ Ok y → type_of other ≡ type_of h → prefix other ≡ prefix h
    → kind y ≡ kind x
kind-again h other bs cs x y read again types prefixes =
    kind-header other cs y again
    ∙ ap (λ t. kind_by t (prefix other)) types
    ∙ ap (kind_by (type_of h)) prefixes ∙ sym (kind-header h bs x read)

-- the item that is read
abbrev read-is : ItemType → Result ItemType GrammarFault
read-is x = Ok x

kind-long : (x : ItemType) → read-is item.Long ≡ read-is x → kind x ≡ None
kind-long x e = let same : item.Long ≡ x = cc in sym (ap kind same)

-- none of them is a long item
pub kind-short : (h : ℕ) (bs : List ℕ) (x z : ItemType) → item_of h bs ≡ Ok x → kind x ≡ Some z
    → following_length h bs ≡ data_length h
kind-short h bs x z is known = short-by (is_long_header h) refl
  where
    short-by : (b : Bool) → is_long_header h ≡ b → following_length h bs ≡ data_length h
    short-by true e =
        let long : read-is item.Long ≡ read-is x =
        subst (λ n. item_of n bs ≡ Ok x) (eqb-true h 0xfe e) is in
        let none : kind x ≡ None = kind-long x long in cc
    short-by false e = short-follow h bs e

-- the header of the next larger size

pub wider-one : (h : ℕ) → (type_of (prefix h + 2) ≡ type_of h) × (prefix (prefix h + 2) ≡ prefix h)
    × (data_length (prefix h + 2) ≡ 2)
wider-one h =
    let size : (prefix h + 2) % 4 ≡ 2 = omega arith in
    (omega arith, omega arith, ap (λ n. cond (n == 3) 4 n) size)

pub wider-two : (h : ℕ) → (type_of (prefix h + 3) ≡ type_of h) × (prefix (prefix h + 3) ≡ prefix h)
    × (data_length (prefix h + 3) ≡ 4)
wider-two h =
    let size : (prefix h + 3) % 4 ≡ 3 = omega arith in
    (omega arith, omega arith, ap (λ n. cond (n == 3) 4 n) size)
