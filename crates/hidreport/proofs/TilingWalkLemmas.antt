-- What a walk announces is tiled, whatever a Pop brings back.
use Rattle.std.proofs.Common.{◌≡◌, ℕ, ◌+◌, ◌-◌, ◌<◌, ◌≤◌, ◌⊎◌, inl, inr, Bool, true}
use Rattle.std.proofs.Common.{false, cond, ◌&&◌, List, [], ◌∷◌, ◌++◌, length, take, Option, None}
use Rattle.std.proofs.Common.{Some, is_some, Result, Ok, Err, refl, sym, ap, ◌∙◌, subst}
use Rattle.std.proofs.Common.{arith}
use Rattle.std.proofs.lemmas.Grind.{common_steps, flat_map-append}
use Rattle.hidreport_items.specs.Flags.{Flags}
use Rattle.hidreport_items.specs.Answer.{GrammarFault}
use Rattle.hidreport_items.specs.Spelling.{item_of}
use Rattle.hidreport_items.specs.declared.main_item.CollectionItem.{CollectionItem}
use Rattle.hidreport_items.specs.declared.item.ItemType.{ItemType}
use Rattle.hidreport_lists.specs.Entry.{Entry}
use Rattle.hidreport_lists.specs.Itemising.{itemise}
use Rattle.hidreport_lists.specs.Rebuilt.{items_of}
use Rattle.hidreport.specs.Fields.{attributes, fields_made, fields_of, list_or_none}
use Rattle.hidreport.specs.ItemState.{ItemState, first_of}
use Rattle.hidreport.specs.Kinds.{Direction, Input, Output, Feature, data_of, goes}
use Rattle.hidreport.specs.Kinds.{is_end_collection, collection_kind_of}
use Rattle.hidreport.specs.Making.{extent}
use Rattle.hidreport.specs.Meaning.{at_offset, meaning_by, parse_by, parse_items}
use Rattle.hidreport.specs.MeaningFault.{MeaningFault}
use Rattle.hidreport.specs.Parser.Machine.{StateRecord, first_id, adds, added_to, fault_in, key_in}
use Rattle.hidreport.specs.Parser.Machine.{new_collection, next_state, next_reports, first_state}
use Rattle.hidreport_fields.specs.Lookup.{reports_of}
use Rattle.hidreport.specs.Parser.Machine.{start_in, unless_fault, go_on, walk}
use Rattle.hidreport.specs.Places.{bits_of}
use Rattle.hidreport_fields.specs.Records.{CollectionRecord, DescriptorRecord, FieldRecord, ReportRecord}
use Rattle.hidreport_fields.specs.Tiling.{Each, HasNoRest, HasRange, HaveOwnIds, IsFilled}
use Rattle.hidreport_fields.specs.Records.{collections_of}
use Rattle.hidreport_fields.specs.Tiling.{IsOf, IsTiled}
use Rattle.hidreport_fields.specs.Records.{fields_in_all, reports_in_all}
use Rattle.hidreport.specs.Usages.{usages_of}
use Rattle.hidreport.specs.declared.parse_options.ParseOptions.{ParseOptions}
use Rattle.hidreport.specs.Options.{reading_of}
use Rattle.hidreport.proofs.OwnCollectionsLemmas.{AreOpened, opened-append, opened-more, opened-new}
use Rattle.hidreport.proofs.OwnCollectionsLemmas.{opened-take, own-collections}
use Rattle.hidreport.proofs.ReadingLemmas.{walk-meaning}
use Rattle.hidreport.proofs.TilingLemmas.{IsGood, IsMade, IsWell, ranged, added-good, added-own}
use Rattle.hidreport.proofs.TilingLemmas.{each-append, each-more, extent-some, fresh}
use Rattle.hidreport.proofs.TilingLemmas.{less-or-not, made, numbered, numbered-added, with_number}
use Rattle.hidreport.proofs.TilingLemmas.{with_number-append}
use Rattle.hidreport.specs.declared.parser.extent.Extent.{Extent}

all-good : (known more : List (List CollectionRecord)) (rs : List ReportRecord)
    → Each (IsGood known) rs
    → Each (IsGood (known ++ more)) rs
all-good known more rs g =
    each-more (IsGood known) (IsGood (known ++ more)) rs
    (λ r p. (
      p.0,
      p.1,
      each-more (IsWell known r.id) (IsWell (known ++ more) r.id) r.fields
          (λ f w. (w.0, opened-more known more [] (collections_of f) w.1, w.2, w.3)) p.2,
    )) g

-- the id of the report that a field goes to is its own, where it has one
own-key : (own first : Option ℕ) → (own ≡ None) ⊎ (own ≡ first_of own first)
own-key None first = inl refl
own-key (Some id) first = inr refl

-- what an item makes

no-and : (b : Bool) → (b && false) ≡ true → ⊥
no-and true e = cc
no-and false e = cc

made-of : (known : List (List CollectionRecord)) (key : Option ℕ) (f : ItemState)
    (cs : List CollectionRecord)
    (id first : ℕ) (d : Direction) (o : Option (Direction × Flags)) (e : Option Extent)
    → (goes d o && is_some e) ≡ true
    → ((z : Extent) → e ≡ Some z → (0 < z.size) × (0 < z.count)) → AreOpened known [] cs
    → (f.report_id ≡ None) ⊎ (f.report_id ≡ key)
    → IsMade known key first (first + bits_of e) (fields_of f cs id first o e)
made-of known key f cs id first d None e makes some l own = cc
made-of known key f cs id first d (Some y) None makes some l own =
    absurd (no-and (goes d (Some y)) makes)
made-of known key f cs id first d (Some y) (Some z) makes some l own =
    made known key (record { report_id = f.report_id; number = id; first = first }) z y.1
    (list_or_none (usages_of f)) (attributes f cs y.0 y.1)
    (some z refl).0 (some z refl).1 l own (ranged f)

record Grown (n id count most new : ℕ) : Type 0 where
  once : new ≤ most
  above : n < id → new ≡ 0
  below : id + count ≤ n → new ≡ 0

grown-none : (n id count most : ℕ) → Grown n id count most 0
grown-none n id count most = record { once = omega arith; above = λ lt. refl; below = λ le. refl }

abbrev pub one_if : Bool → ℕ
one_if b = cond b 1 0

grown-by : (b : Bool) (n : ℕ) (f : ItemState) (cs : List CollectionRecord) (id first : ℕ)
    (y : Direction × Flags) (z : Extent)
    → Grown n id (fields_made (Some y) (Some z)) (one_if b)
    (cond (b && true) (with_number n (fields_of f cs id first (Some y) (Some z))) 0)
grown-by true n f cs id first y z =
    let own = fresh n (record { report_id = f.report_id; number = id; first = first }) z y.1
    (list_or_none (usages_of f))
    (attributes f cs y.0 y.1) in
    record { once = own.once; above = own.above; below = own.below }
grown-by false n f cs id first y z = grown-none n id (fields_made (Some y) (Some z)) 0

grown-not : (b : Bool) (n id new most : ℕ) → Grown n id 0 most (cond (b && false) new 0)
grown-not true n id new most = grown-none n id 0 most
grown-not false n id new most = grown-none n id 0 most

grown : (n : ℕ) (f : ItemState) (cs : List CollectionRecord) (id first : ℕ) (d : Direction)
    (o : Option (Direction × Flags)) (e : Option Extent)
    → Grown n id (fields_made o e) (one_if (goes d o))
    (cond (goes d o && is_some e) (with_number n (fields_of f cs id first o e)) 0)
grown n f cs id first d None e = grown-none n id 0 0
grown n f cs id first d (Some y) None =
    grown-not (goes d (Some y)) n id (with_number n (fields_of f cs id first (Some y) None))
    (one_if (goes d (Some y)))
grown n f cs id first d (Some y) (Some z) = grown-by (goes d (Some y)) n f cs id first y z

-- an item goes one way
one-way : (o : Option (Direction × Flags))
    → one_if (goes Input o) + (one_if (goes Output o) + one_if (goes Feature o)) ≤ 1
one-way None = omega arith
one-way (Some (Input, flags)) = omega arith
one-way (Some (Output, flags)) = omega arith
one-way (Some (Feature, flags)) = omega arith

-- what holds between two items

abbrev total : ℕ → DescriptorRecord → ℕ
total n d = numbered n d.input + (numbered n d.output + numbered n d.feature)

record Keeps (known : List (List CollectionRecord)) (h : StateRecord) : Type 0 where
  filled : (d : Direction) → Each (IsGood known) (reports_of d h.descriptor)
  own : (d : Direction) → HaveOwnIds (reports_of d h.descriptor)
  once : (n : ℕ) → total n h.descriptor ≤ 1
  unused : (n : ℕ) → h.fields ≤ n → total n h.descriptor ≡ 0
  counted : length known ≡ h.collections
  opened : AreOpened known [] h.opened

abbrev made_in : Direction → StateRecord → ItemType → List FieldRecord
made_in d h x = fields_of h.item_state h.opened h.fields (start_in d h) (data_of x)
    (extent h.item_state)

good-by : (b : Bool) (known : List (List CollectionRecord)) (d : Direction) (h : StateRecord)
    (x : ItemType)
    → adds d h x ≡ b → Each (IsGood known) (reports_of d h.descriptor)
    → AreOpened known [] h.opened
    → Each (IsGood known)
    (cond b (added_to (key_in d h) (bits_of (extent h.item_state)) (made_in d h x)
    (reports_of d h.descriptor)) (reports_of d h.descriptor))
good-by true known d h x makes g l =
    added-good known (key_in d h) (bits_of (extent h.item_state)) (made_in d h x)
    (reports_of d h.descriptor) g
    (made-of known (key_in d h) h.item_state h.opened h.fields (start_in d h) d (data_of x)
    (extent h.item_state) makes (λ z e. extent-some h.item_state z e) l
    (own-key h.item_state.report_id (first_id (reports_of d h.descriptor))))
good-by false known d h x makes g l = g

good-next : (known : List (List CollectionRecord)) (d : Direction) (h : StateRecord) (x : ItemType)
    → Keeps known h → Each (IsGood known) (next_reports d h x)
good-next known d h x k = good-by (adds d h x) known d h x refl (k.filled d) k.opened

own-by : (b : Bool) (d : Direction) (h : StateRecord) (x : ItemType)
    → HaveOwnIds (reports_of d h.descriptor)
    → HaveOwnIds (cond b (added_to (key_in d h) (bits_of (extent h.item_state)) (made_in d h x)
    (reports_of d h.descriptor)) (reports_of d h.descriptor))
own-by true d h x o = added-own h.item_state.report_id (bits_of (extent h.item_state))
    (made_in d h x)
    (reports_of d h.descriptor) o
own-by false d h x o = o

numbered-by : (b : Bool) (n : ℕ) (d : Direction) (h : StateRecord) (x : ItemType)
    → numbered n (cond b (added_to (key_in d h) (bits_of (extent h.item_state)) (made_in d h x)
    (reports_of d h.descriptor)) (reports_of d h.descriptor))
    ≡ numbered n (reports_of d h.descriptor) + cond b (with_number n (made_in d h x)) 0
numbered-by true n d h x = numbered-added n (key_in d h) (bits_of (extent h.item_state))
    (made_in d h x)
    (reports_of d h.descriptor)
numbered-by false n d h x = omega arith

grown-in : (n : ℕ) (d : Direction) (h : StateRecord) (x : ItemType)
    → Grown n h.fields (fields_made (data_of x) (extent h.item_state)) (one_if (goes d (data_of x)))
    (cond (adds d h x) (with_number n (made_in d h x)) 0)
grown-in n d h x = grown n h.item_state h.opened h.fields (start_in d h) d (data_of x)
    (extent h.item_state)

abbrev next_total : ℕ → StateRecord → ItemType → ℕ
next_total n h x = numbered n (next_reports Input h x) +
    (numbered n (next_reports Output h x) + numbered n (next_reports Feature h x))

once-by : (n : ℕ) (h : StateRecord) (x : ItemType) → (n < h.fields) ⊎ (h.fields ≤ n)
    → total n h.descriptor ≤ 1 → (h.fields ≤ n → total n h.descriptor ≡ 0) → next_total n h x ≤ 1
once-by n h x (inl lt) once unused =
    let i = grown-in n Input h x in let o = grown-in n Output h x in
    let f = grown-in n Feature h x in
    omega (
      arith,
      once,
      numbered-by (adds Input h x) n Input h x,
      numbered-by (adds Output h x) n
          Output h x,
      numbered-by (adds Feature h x) n Feature h x,
      i.above lt,
      o.above lt,
      f.above
          lt,
    )
once-by n h x (inr le) once unused =
    let i = grown-in n Input h x in let o = grown-in n Output h x in
    let f = grown-in n Feature h x in
    omega (
      arith,
      unused le,
      numbered-by (adds Input h x) n Input h x,
      numbered-by (adds Output h x)
          n Output h x,
      numbered-by (adds Feature h x) n Feature h x,
      i.once,
      o.once,
      f.once,
      one-way
          (data_of x),
    )

unused-next : (n : ℕ) (h : StateRecord) (x : ItemType) → (h.fields ≤ n → total n h.descriptor ≡ 0)
    → h.fields + fields_made (data_of x) (extent h.item_state) ≤ n → next_total n h x ≡ 0
unused-next n h x unused le =
    let i = grown-in n Input h x in let o = grown-in n Output h x in
    let f = grown-in n Feature h x in
    omega (
      arith,
      unused (omega (arith, le)),
      numbered-by (adds Input h x) n Input h x,
      numbered-by
          (adds Output h x) n Output h x,
      numbered-by (adds Feature h x) n Feature h x,
      i.below le,
      o.below le,
      f.below le,
    )

-- the collection that an item opens, inside the open ones
abbrev new_opening : StateRecord → Option CollectionItem → List (List CollectionRecord)
new_opening h None = []
new_opening h (Some kind) = (h.opened ++ new_collection h (Some kind)) ∷ []

new-opened : (known : List (List CollectionRecord)) (h : StateRecord) (o : Option CollectionItem)
    → length known ≡ h.collections
    → AreOpened (known ++ new_opening h o) h.opened (new_collection h o)
new-opened known h None e = tt
new-opened known h (Some kind) e = opened-new known h.opened (record {
  id = h.collections;
  kind = kind;
  usages = (list_or_none (usages_of h.item_state)).usages;
}) e

opened-by : (b : Bool) (known : List (List CollectionRecord)) (h : StateRecord)
    (new : List CollectionRecord) → AreOpened known [] h.opened → AreOpened known h.opened new
    → AreOpened known [] (cond b (take (length h.opened - 1) h.opened) (h.opened ++ new))
opened-by true known h new l m = opened-take known [] (length h.opened - 1) h.opened l
opened-by false known h new l m = opened-append known [] h.opened new l m

as-many : (h : StateRecord) (o : Option CollectionItem)
    → length (new_opening h o) ≡ length (new_collection h o)
as-many h None = refl
as-many h (Some kind) = refl

counted-more : (known new : List (List CollectionRecord))
    → length (known ++ new) ≡ length known + length new
counted-more known new = grind (arith, common_steps)

keeps-next : (known : List (List CollectionRecord)) (h : StateRecord) (x : ItemType) → Keeps known h
    → Keeps (known ++ new_opening h (collection_kind_of x)) (next_state h x)
keeps-next known h x k =
    let new = new_opening h (collection_kind_of x) in
    record {
      filled = λ d. elim d as (λ d. Each (IsGood (known ++ new))
          (reports_of d (next_state h x).descriptor)) [
            | Input ↦ all-good known new (next_reports Input h x) (good-next known Input h x k)
            | Output ↦ all-good known new (next_reports Output h x) (good-next known Output h x k)
            | Feature ↦ all-good known new (next_reports Feature h x)
                (good-next known Feature h x k)
          ];
      own = λ d. elim d as (λ d. HaveOwnIds (reports_of d (next_state h x).descriptor)) [
        | Input ↦ own-by (adds Input h x) Input h x (k.own Input)
        | Output ↦ own-by (adds Output h x) Output h x (k.own Output)
        | Feature ↦ own-by (adds Feature h x) Feature h x (k.own Feature)
      ];
      once = λ n. once-by n h x (less-or-not n h.fields) (k.once n) (k.unused n);
      unused = λ n le. unused-next n h x (k.unused n) le;
      counted = counted-more known new ∙ ap (λ n. n + length new) k.counted
          ∙ ap (λ n. h.collections + n) (as-many h (collection_kind_of x));
      opened = opened-by (is_end_collection x) (known ++ new) h (new_collection h (collection_kind_of x))
          (opened-more known new [] h.opened k.opened)
          (new-opened known h (collection_kind_of x) k.counted);
    }

-- at the end

each-flat : (P : FieldRecord → Type 0) (rs : List ReportRecord) → Each (λ r. Each P r.fields) rs
    → Each P (fields_in_all rs)
each-flat P [] e = tt
each-flat P (r ∷ rs) e = each-append P r.fields (fields_in_all rs) e.0 (each-flat P rs e.1)

whole : (P : ReportRecord → Type 0) (d : DescriptorRecord) → Each P d.input → Each P d.output
    → Each P d.feature → Each P (reports_in_all d)
whole P d i o f = each-append P d.input (d.output ++ d.feature) i
    (each-append P d.output d.feature o f)

numbered-append : (n : ℕ) (rs qs : List ReportRecord)
    → numbered n (rs ++ qs) ≡ numbered n rs + numbered n qs
numbered-append n rs qs = ap (with_number n)
    (flat_map-append (λ (r : ReportRecord). r.fields) rs qs)
    ∙ with_number-append n (fields_in_all rs) (fields_in_all qs)

total-all : (n : ℕ) (d : DescriptorRecord) → numbered n (reports_in_all d) ≡ total n d
total-all n d = numbered-append n d.input (d.output ++ d.feature)
    ∙ ap (λ m. numbered n d.input + m) (numbered-append n d.output d.feature)

filled-end : (known : List (List CollectionRecord)) (r : ReportRecord) → IsGood known r → IsFilled r
filled-end known r g = record {
  some = g.0;
  covers = g.1;
  elements = each-more (IsWell known r.id) HasNoRest r.fields (λ f w. w.0) g.2;
  own = each-more (IsWell known r.id) (IsOf r.id) r.fields (λ f w. w.2) g.2;
  ranges = each-more (IsWell known r.id) HasRange r.fields (λ f w. w.3) g.2;
}

tiled-end : (known : List (List CollectionRecord)) (h : StateRecord) → Keeps known h
    → IsTiled h.descriptor
tiled-end known h k =
    let good = whole (IsGood known) h.descriptor (k.filled Input) (k.filled Output)
    (k.filled Feature) in
    record {
      filled = each-more (IsGood known) IsFilled (reports_in_all h.descriptor) (filled-end known)
          good;
      input_ids = k.own Input;
      output_ids = k.own Output;
      feature_ids = k.own Feature;
      numbers = λ n. omega (arith, total-all n h.descriptor, k.once n);
      collections = own-collections known (fields_in_all (reports_in_all h.descriptor))
          (each-flat (λ f. AreOpened known [] (collections_of f)) (reports_in_all h.descriptor)
          (each-more (IsGood known) (λ r. Each (λ f. AreOpened known [] (collections_of f))
          r.fields) (reports_in_all h.descriptor)
          (λ r g. each-more (IsWell known r.id) (λ f. AreOpened known [] (collections_of f))
          r.fields (λ f w. w.1) g.2) good));
    }

abbrev Announces : Result DescriptorRecord (ℕ × MeaningFault) → DescriptorRecord → Type 0
Announces r d = r ≡ Ok d

tiled-by : (o : Option MeaningFault) (h : StateRecord) (k : ℕ) (x : ItemType) (xs : List ItemType)
    (d : DescriptorRecord) → fault_in h x ≡ o
    → Announces (walk h k (x ∷ xs)) d → (Announces (walk (next_state h x) (k + 1) xs) d → IsTiled d)
    → IsTiled d
tiled-by None h k x xs d e is later =
    later (sym (ap (λ o. go_on (unless_fault o (next_state h x)) k (λ n. walk n (k + 1) xs)) e)
    ∙ is)
tiled-by (Some fault) h k x xs d e is later =
    let bad : Announces (Err (k, fault)) d =
    sym (ap (λ o. go_on (unless_fault o (next_state h x)) k (λ n. walk n (k + 1) xs)) e)
    ∙ is in cc

tiled-from : (known : List (List CollectionRecord)) (h : StateRecord) (k : ℕ)
    (items : List ItemType)
    (d : DescriptorRecord) → Keeps known h
    → Announces (walk h k items) d → IsTiled d
tiled-from known h k [] d keeps is =
    let same : h.descriptor ≡ d = cc in subst IsTiled same (tiled-end known h keeps)
tiled-from known h k (x ∷ xs) d keeps is =
    tiled-by (fault_in h x) h k x xs d refl is
    (λ rest. tiled-from (known ++ new_opening h (collection_kind_of x)) (next_state h x) (k + 1) xs d
    (keeps-next known h x keeps) rest)

none-own : HaveOwnIds []
none-own = record { once = λ id. omega arith; first = tt }

keeps-nothing : (options : ParseOptions) → Keeps [] (first_state options)
keeps-nothing options = record {
  filled = λ d. elim d as (λ d. Each (IsGood []) (reports_of d (first_state options).descriptor))
      [ Input ↦ tt | Output ↦ tt | Feature ↦ tt ];
  own = λ d. elim d as (λ d. HaveOwnIds (reports_of d (first_state options).descriptor))
      [ Input ↦ none-own | Output ↦ none-own | Feature ↦ none-own ];
  once = λ n. omega arith;
  unused = λ n le. refl;
  counted = refl;
  opened = tt;
}

-- whatever a Pop brings back
pub walk-tiled : (options : ParseOptions) (items : List ItemType) (d : DescriptorRecord)
    → walk (first_state options) 0 items ≡ Ok d → IsTiled d
walk-tiled options items d is =
    tiled-from [] (first_state options) 0 items d (keeps-nothing options) is

found-ok : (entries : List Entry) (r : Result DescriptorRecord (ℕ × MeaningFault))
    (d : DescriptorRecord) → at_offset entries r ≡ Ok d → r ≡ Ok d
found-ok entries (Ok announced) d e = let same : announced ≡ d = cc in ap Ok same
found-ok entries (Err first) d e = cc

tiled-items : (options : ParseOptions) (r : Result (List Entry) (ℕ × GrammarFault))
    (d : DescriptorRecord)
    → parse_items (reading_of options) r ≡ Ok d → IsTiled d
tiled-items options (Ok entries) d e =
    let xs = items_of entries in
    walk-tiled options xs d (walk-meaning options xs
    ∙ found-ok entries (meaning_by (reading_of options) xs) d e)
tiled-items options (Err fault) d e = cc

-- the reports of a descriptor that is read
pub parse-tiled : (options : ParseOptions) (bytes : List ℕ) (d : DescriptorRecord)
    → parse_by (reading_of options) bytes ≡ Ok d → IsTiled d
parse-tiled options [] d e = cc
parse-tiled options (b ∷ bs) d e = tiled-items options (itemise item_of (b ∷ bs)) d e
