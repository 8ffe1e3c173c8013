-- Who goes over fields, or over usages of an item, one after the other.
use Rattle.std.proofs.Common.{◌≡◌, ◌≤◌, ◌<◌, ◌+◌, ◌-◌, ◌∷◌, ◌++◌, [], suc, ℕ, List, drop, length, map}
use Rattle.std.proofs.Common.{arith, ap, refl, replicate, subst, sym, ◌∙◌, Option, is_some, true, false}
use Rattle.std.proofs.Math.ListN.{get_or}
use Rattle.std.proofs.lemmas.List.{append-nil, drop_all, drop_more}
use Rattle.hidreport_fields.specs.UsageNumber.{usage_number}
use Rattle.hidreport_fields.specs.declared.field.usage.Usage.{Usage}
use Rattle.hidreport_linux.specs.CoreKept.{ReadingRecord}
use Rattle.hidreport_linux.specs.FieldDevices.{item_at}
use Rattle.hidreport_linux.specs.FieldOrder.{usages_of}
use Rattle.hidreport_linux.specs.declared.item.Item.{Item}
use Rattle.hidreport_linux.specs.declared.linux_field.LinuxField.{LinuxField}
use Rattle.hidreport_multitouch.specs.Fields.{BeginsField, touch_item_for}
use Rattle.hidreport_multitouch.specs.Passing.{first_item, GoesBy, GoesOverAll, item_behind, last_of}
use Rattle.hidreport_multitouch.specs.Passing.{PassesField, PassesFields, usages_for, usages_in}
use Rattle.hidreport_multitouch.specs.declared.driven_devices.DrivenDevices.{DrivenDevices}
use Rattle.hidreport_multitouch.specs.declared.driven_item.DrivenItem.{DrivenItem}
use Rattle.hidreport_multitouch.specs.declared.driven_item.TouchItem.{TouchItem}

-- a field, then those behind it
pub fields-on : (r : ReadingRecord) (fs : List LinuxField) (i : ℕ) (d : LinuxField)
    (old next end : DrivenDevices) → i < length fs → PassesField r (get_or fs i d) old next
    → PassesFields r (drop (i + 1) fs) next end → PassesFields r (drop i fs) old end
fields-on r fs i d old next end h one rest = rw (drop_more fs i d h) (next, (one, rest))

-- no field is left
pub fields-end : (r : ReadingRecord) (fs : List LinuxField) (i : ℕ) (d : DrivenDevices)
    → length fs ≤ i → PassesFields r (drop i fs) d d
fields-end r fs i d h = rw (drop_all i fs h) refl

-- a usage, then others
abbrev Goes : DrivenItem → ℕ → List ℕ → DrivenDevices → DrivenDevices → Type 0
Goes item usage more old end = GoesOverAll item (usage ∷ more) old end

-- a usage, then those behind it
pub usages-on : (item after : DrivenItem) (us left : List Usage) (usage : Usage) (more : List ℕ)
    (number : ℕ) (old next end : DrivenDevices) → us ≡ usage ∷ left → number ≡ usage_number usage
    → after ≡ item_behind old item number → GoesBy item number old next
    → GoesOverAll after (map usage_number left ++ more) next end
    → GoesOverAll item (map usage_number us ++ more) old end
usages-on item after us left usage more number old next end is is_number same one rest =
    let gone : Goes item number (map usage_number left ++ more) old end
    = (
      next,
      (
        one,
        subst (λ (i : DrivenItem). GoesOverAll i (map usage_number left ++ more)
            next end) same rest,
      ),
    ) in
    rw is (subst (λ n. Goes item n (map usage_number left ++ more) old end) is_number gone)

-- no usage is left
pub usages-end : (item : DrivenItem) (us : List Usage) (more : List ℕ) (d end : DrivenDevices)
    → us ≡ [] → GoesOverAll item more d end → GoesOverAll item (map usage_number us ++ more) d end
usages-end item us more d end is rest = rw is rest

-- the same usage once more, of so many times
pub again-on : (item after : DrivenItem) (usage n k : ℕ) (old next end : DrivenDevices) → k < n
    → after ≡ item_behind old item usage → GoesBy item usage old next
    → GoesOverAll after (replicate (n - (k + 1)) usage) next end
    → GoesOverAll item (replicate (n - k) usage) old end
again-on item after usage n k old next end h same one rest =
    let count : n - k ≡ suc (n - (k + 1)) = omega arith in
    rw count (
      next,
      (
        one,
        subst (λ (i : DrivenItem). GoesOverAll i (replicate (n - (k + 1)) usage)
            next end) same rest,
      ),
    )

-- so many times are over
pub again-end : (item : DrivenItem) (usage n k : ℕ) (d : DrivenDevices) → n ≤ k
    → GoesOverAll item (replicate (n - k) usage) d d
again-end item usage n k d h = let none : n - k ≡ 0 = omega arith in rw none refl

-- the last of all is that of those behind it
pub last-on : (last before wanted : ℕ) (us left : List Usage) (usage : Usage)
    → us ≡ usage ∷ left → last ≡ usage_number usage
    → last_of before (map usage_number us) ≡ wanted
    → last_of last (map usage_number left) ≡ wanted
last-on last before wanted us left usage is is_number all =
    ap (λ n. last_of n (map usage_number left)) is_number
    ∙ ap (λ (l : List Usage). last_of before (map usage_number l)) (sym is) ∙ all

abbrev item-of : Item → Option TouchItem → DrivenItem
item-of item touch = record { item = item; touch = touch }

-- an item of hid-input's and one of hid-multitouch's make up the first
first-made : (item : DrivenItem) (f : LinuxField) (d : DrivenDevices) → item.item ≡ item_at f
    → item.touch ≡ touch_item_for d.facts f d.applications.items → item ≡ first_item f d
first-made item f d is_item is_touch =
    ap (λ i. item-of i item.touch) is_item ∙ ap (λ t. item-of (item_at f) t) is_touch

-- all usages of a field, then the last once more for each element behind them
pub passes-again : (r : ReadingRecord) (f : LinuxField) (old begun mid new : DrivenDevices)
    (item after : DrivenItem) (us : List Usage) (last count : ℕ) → BeginsField f old begun
    → item.item ≡ item_at f → item.touch ≡ touch_item_for old.facts f old.applications.items
    → us ≡ usages_of f r → last ≡ last_of 0 (map usage_number us) → count ≡ f.count - f.usages
    → is_some begun.facts ≡ true
    → ((more : List ℕ) (end : DrivenDevices) → GoesOverAll after more mid end
    → GoesOverAll item (map usage_number us ++ more) begun end)
    → GoesOverAll after (replicate count last) mid new → PassesField r f old new
passes-again r f old begun mid new item after us last count begins is_item is_touch is is_last
    is_count takes passed again =
    let numbers : map usage_number us ++ replicate count last ≡ usages_in r f begun
    = ap (λ n. map usage_number us ++ replicate n last) is_count
    ∙ ap (λ n. map usage_number us ++ replicate (f.count - f.usages) n) is_last
    ∙ ap (λ (u : List Usage). usages_for true f (map usage_number u)) is
    ∙ ap (λ b. usages_for b f (map usage_number (usages_of f r))) (sym takes) in
    let gone = subst (λ i. GoesOverAll i (map usage_number us ++ replicate count last) begun new)
    (first-made item f old is_item is_touch) (passed (replicate count last) new again) in
    (begun, (begins, subst (λ n. GoesOverAll (first_item f old) n begun new) numbers gone))

-- all usages of a field of a device that hid-input takes
pub passes-once : (r : ReadingRecord) (f : LinuxField) (old begun new : DrivenDevices)
    (item after : DrivenItem) (us : List Usage) → BeginsField f old begun
    → item.item ≡ item_at f → item.touch ≡ touch_item_for old.facts f old.applications.items
    → us ≡ usages_of f r → is_some begun.facts ≡ false
    → ((more : List ℕ) (end : DrivenDevices) → GoesOverAll after more new end
    → GoesOverAll item (map usage_number us ++ more) begun end)
    → PassesField r f old new
passes-once r f old begun new item after us begins is_item is_touch is takes passed =
    let numbers : map usage_number us ++ [] ≡ usages_in r f begun
    = append-nil (map usage_number us)
    ∙ ap (λ (u : List Usage). usages_for false f (map usage_number u)) is
    ∙ ap (λ b. usages_for b f (map usage_number (usages_of f r))) (sym takes) in
    let gone = subst (λ i. GoesOverAll i (map usage_number us ++ []) begun new)
    (first-made item f old is_item is_touch) (passed [] new refl) in
    (begun, (begins, subst (λ n. GoesOverAll (first_item f old) n begun new) numbers gone))
