-- What hid-core doesn't refuse is a descriptor that hosts take: each Pop has its Push, each End
-- Collection its collection, and sizes and counts are moderate.
use Rattle.std.proofs.Common.{◌≡◌, ℕ, zero, suc, ◌+◌, ◌-◌, ◌<◌, ◌≤◌, Bool, true, false, cond}
use Rattle.std.proofs.Common.{◌&&◌, List, [], ◌∷◌, ◌++◌, length, take, drop, nat_lt, filter_map}
use Rattle.std.proofs.Common.{Option, None, Some, Result, Ok, Err, refl, sym, ap, ◌∙◌, subst, arith}
use Rattle.std.proofs.Common.{length-append, length-take, length-drop}
use Rattle.std.specs.Prelude.{◌%◌, ◌==◌, ◌||◌, nat_le}
use Rattle.std.specs.List.{cons_option}
use Rattle.std.proofs.lemmas.Bool.{le-leb, leb-false, lt-ltb, ltb-false}
use Rattle.std.proofs.lemmas.Bool.{eqb-false, ne_eqb}
use Rattle.hidreport_items.specs.Answer.{GrammarFault}
use Rattle.hidreport_items.specs.Numbers.{is_short_length}
use Rattle.hidreport_items.specs.Spelling.{data_length, following_length, is_long_header}
use Rattle.hidreport_items.specs.Spelling.{item_of, prefix}
use Rattle.hidreport_items.specs.declared.item.ItemType.{ItemType}
use Rattle.hidreport_items.specs.declared.item.ItemType.TheVariants as items
use Rattle.hidreport_items.proofs.FollowingLemmas.{short-follow}
use Rattle.hidreport_lists.specs.Mending.{PieceRecord, ended, ends_unknown, front_piece, has_local}
use Rattle.hidreport_lists.specs.Mending.{item_in, left_out, piece_by, pieces_from}
use Rattle.hidreport_lists.specs.Mending.{then_ended, whole_piece, with_piece, without_ended}
use Rattle.hidreport_lists.specs.Mending.{zero_piece}
use Rattle.hidreport_lists.specs.declared.mending.Reason.TheVariants as reason
use Rattle.hidreport_lists.proofs.MendingLemmas.{first-piece, whole-front}
use Rattle.hidreport.specs.Taken.{IsTakenByHosts, are_taken, has_front, is_moderate, opened_behind}
use Rattle.hidreport.specs.Taken.{pushes_behind}
use Rattle.hidreport.specs.declared.repairing.repair_options.RepairOptions.{RepairOptions}
use Rattle.hidreport_linux.specs.CoreItems.{core_item, item_by}
use Rattle.hidreport_linux.specs.CoreKept.{ReadingRecord, nothing_kept}
use Rattle.hidreport_linux.specs.CoreReading.{behind, behind_data}
use Rattle.hidreport_linux.specs.CoreReading.{behind_page}
use Rattle.hidreport_linux.specs.CoreReading.{read_all, refusal_of, refused, when}
use Rattle.hidreport_linux.specs.LinuxDevice.{IsTakenByLinux, linux_options}
use Rattle.hidreport_linux.specs.declared.reading.core_item.CoreItem.{CoreItem}
use Rattle.hidreport_linux.specs.declared.reading.core_item.CoreItem.TheVariants as core
use Rattle.hidreport_linux.specs.declared.reading.reasons.RefusalReason.{RefusalReason}
use Rattle.hidreport_linux.specs.declared.reading.reasons.RefusalReason.TheVariants as refusal
use Rattle.hidreport_linux.proofs.AgreeLemmas.{Agrees, IsPlain, agrees, standing}
use Rattle.hidreport_linux.proofs.KeptLemmas.{Keeps, keeps-data, keeps-local, keeps-page}
use Rattle.hidreport_linux.proofs.ReadingLemmas.{read-cut, read-on, read-refused}

-- the items that follow are taken behind a reading
abbrev AreTakenIn : ReadingRecord → List ItemType → Type 0
AreTakenIn r xs = are_taken (length r.pushed) (length r.around) xs ≡ true

-- an item that opens and closes nothing
plain-taken : (r s : ReadingRecord) (o : Option ItemType) (xs : List ItemType) → Keeps r s
    → IsPlain o → AreTakenIn s xs → AreTakenIn r (cons_option o xs)
plain-taken r s None xs keeps plain taken =
    ap (λ l. are_taken (length l) (length r.around) xs) (sym keeps.pushed)
    ∙ ap (λ l. are_taken (length s.pushed) (length l) xs) (sym keeps.around) ∙ taken
plain-taken r s (Some x) xs keeps plain taken =
    ap (λ (t : Bool × Bool × ℕ × ℕ). (t.0 && t.1) && are_taken t.2 t.3 xs)
    (plain (length r.pushed) (length r.around))
    ∙ ap (λ l. are_taken (length l) (length r.around) xs) (sym keeps.pushed)
    ∙ ap (λ l. are_taken (length s.pushed) (length l) xs) (sym keeps.around) ∙ taken

when-none : (b : Bool) (reason : RefusalReason) → when b reason ≡ None → b ≡ false
when-none true reason e = cc
when-none false reason e = refl

some-of : (n : ℕ) → (n == 0) ≡ false → nat_lt 0 n ≡ true
some-of n e =
    let more : 0 < n = omega (arith, eqb-false n 0 e) in lt-ltb 0 n more

step-taken : (offset : ℕ) (x : CoreItem) (r : ReadingRecord) (o : Option ItemType)
    (xs : List ItemType) → refusal_of x r ≡ None → Agrees x o → AreTakenIn (behind offset x r) xs
    → AreTakenIn r (cons_option o xs)
step-taken offset core.Push r o xs none agree taken =
    let size : length (r.pushed ++ r.globals ∷ []) ≡ length r.pushed + 1 =
    simp length-append (omega arith) in
    ap (λ q. are_taken (length r.pushed) (length r.around) (cons_option q xs)) agree
    ∙ ap (λ n. are_taken n (length r.around) xs) (sym size) ∙ taken
step-taken offset core.Pop r o xs none agree taken =
    let some = some-of (length r.pushed) (when-none (length r.pushed == 0) _ none) in
    let size : length (take (length r.pushed - 1) r.pushed) ≡ length r.pushed - 1 =
    simp length-take (omega arith) in
    ap (λ q. are_taken (length r.pushed) (length r.around) (cons_option q xs)) agree
    ∙ ap (λ b. ((b && true) && true) && are_taken (length r.pushed - 1) (length r.around) xs) some
    ∙ ap (λ n. are_taken n (length r.around) xs) (sym size) ∙ taken
step-taken offset core.EndCollection r o xs none agree taken =
    let some = some-of (length r.around) (when-none (length r.around == 0) _ none) in
    let size : length (take (length r.around - 1) r.around) ≡ length r.around - 1 =
    simp length-take (omega arith) in
    ap (λ q. are_taken (length r.pushed) (length r.around) (cons_option q xs)) agree
    ∙ ap (λ b. (b && true) && are_taken (length r.pushed) (length r.around - 1) xs) some
    ∙ ap (λ n. are_taken (length r.pushed) n xs) (sym size) ∙ taken
step-taken offset (core.Collection number) r o xs none agree taken =
    let size : length (behind offset (core.Collection number) r).around ≡ length r.around + 1 =
    simp length-append (omega arith) in
    ap (λ q. are_taken (length r.pushed) (length r.around) (cons_option q xs)) agree.1
    ∙ ap (λ n. are_taken (length r.pushed) n xs) (sym size) ∙ taken
step-taken offset (core.ReportSize n) r o xs none agree taken =
    let within : nat_le n 256 ≡ true =
    le-leb n 256 (ltb-false 256 n (when-none (nat_lt 256 n) _ none)) in
    ap (λ q. are_taken (length r.pushed) (length r.around) (cons_option q xs)) agree
    ∙ ap (λ b. (b && true) && are_taken (length r.pushed) (length r.around) xs) within ∙ taken
step-taken offset (core.ReportCount n) r o xs none agree taken =
    let within : nat_le n 12288 ≡ true =
    le-leb n 12288 (ltb-false 12288 n (when-none (nat_lt 12288 n) _ none)) in
    ap (λ q. are_taken (length r.pushed) (length r.around) (cons_option q xs)) agree
    ∙ ap (λ b. b && are_taken (length r.pushed) (length r.around) xs) within ∙ taken
step-taken offset core.Long r o xs none agree taken = cc
step-taken offset core.UnknownGlobal r o xs none agree taken = cc
step-taken offset (core.Data d flags) r o xs none agree taken =
    plain-taken r (behind_data offset d flags r) o xs (keeps-data offset d flags r) agree taken
step-taken offset (core.UsagePage page) r o xs none agree taken =
    plain-taken r (behind_page offset page r) o xs (keeps-page offset page r) agree taken
step-taken offset (core.Usage number has_page) r o xs none agree taken = plain-taken r _ o xs
    (keeps-local offset (core.Usage number has_page) r) agree taken
step-taken offset (core.UsageMinimum number) r o xs none agree taken = plain-taken r _ o xs
    (keeps-local offset (core.UsageMinimum number) r) agree taken
step-taken offset (core.UsageMaximum number has_page) r o xs none agree taken = plain-taken r _ o xs
    (keeps-local offset (core.UsageMaximum number has_page) r) agree taken
step-taken offset (core.Delimiter opens) r o xs none agree taken = plain-taken r _ o xs
    (keeps-local offset (core.Delimiter opens) r) agree taken
step-taken offset x r o xs none agree taken =
    plain-taken r (behind offset x r) o xs (record { pushed = refl; around = refl }) agree taken

-- the piece at a header with its data

zero-item : (offset header : ℕ) (stood : List ℕ) (r : Result ItemType GrammarFault)
    (fault : GrammarFault)
    → item_in (zero_piece offset stood header r) ≡ standing (Err fault) r
zero-item offset header stood (Ok x) fault = refl
zero-item offset header stood (Err other) fault = refl

piece-item : (offset h : ℕ) (bs : List ℕ) (r : Result ItemType GrammarFault)
    → item_in (piece_by offset h bs r) ≡ standing r (item_of (prefix h + 1) (0 ∷ []))
piece-item offset h bs (Ok x) = refl
piece-item offset h bs (Err fault) =
    zero-item offset (prefix h + 1) (h ∷ bs) (item_of (prefix h + 1) (0 ∷ [])) fault

zero-stood : (offset header : ℕ) (stood : List ℕ) (r : Result ItemType GrammarFault)
    → (zero_piece offset stood header r).stood ≡ stood
zero-stood offset header stood (Ok x) = refl
zero-stood offset header stood (Err fault) = refl

piece-stood : (offset h : ℕ) (bs : List ℕ) (r : Result ItemType GrammarFault)
    → (piece_by offset h bs r).stood ≡ h ∷ bs
piece-stood offset h bs (Ok x) = refl
piece-stood offset h bs (Err fault) =
    zero-stood offset (prefix h + 1) (h ∷ bs) (item_of (prefix h + 1) (0 ∷ []))

short-size : (h : ℕ) → is_short_length (data_length h) ≡ true
short-size h = by (h % 4 == 3) refl where
  by : (b : Bool) → (h % 4 == 3) ≡ b → is_short_length (cond b 4 (h % 4)) ≡ true
  by true is = refl
  by false is =
      let other = eqb-false (h % 4) 3 is in
      let small : h % 4 ≤ 2 = omega (arith, other) in
      ap (λ b. b || (h % 4 == 4)) (le-leb (h % 4) 2 small)

-- an item that isn't refused is none with a long header
small-header : (h : ℕ) (bs : List ℕ) (r : ReadingRecord) → refusal_of (core_item h bs) r ≡ None
    → (h < 240) × (core_item h bs ≡ item_by (prefix h) bs)
small-header h bs r none = by (nat_le 0xf0 h) refl none where
  by : (b : Bool) → nat_le 0xf0 h ≡ b
      → refusal_of (cond b core.Long (item_by (prefix h) bs)) r ≡ None
      → (h < 240) × (core_item h bs ≡ item_by (prefix h) bs)
  by true is e = cc
  by false is e =
      (leb-false 0xf0 h is, ap (λ b. cond b core.Long (item_by (prefix h) bs)) is)

-- the pieces of the bytes are there, and their items are taken
abbrev AreTakenFrom : ℕ → List ℕ → ReadingRecord → Type 0
AreTakenFrom offset bytes r = (ps : List PieceRecord)
    × (pieces_from false offset 0 bytes ≡ Ok ps) × AreTakenIn r (filter_map item_in ps)

one-taken : (total offset h : ℕ) (bs : List ℕ) (r : ReadingRecord) → data_length h ≤ length bs
    → refusal_of (core_item h (take (data_length h) bs)) r ≡ None
    → AreTakenFrom (offset + suc (data_length h)) (drop (data_length h) bs)
    (behind total (core_item h (take (data_length h) bs)) r)
    → AreTakenFrom offset (h ∷ bs) r
one-taken total offset h bs r room none rest =
    let n = data_length h in
    let found = take n bs in
    let size : length found ≡ n = simp length-take (omega (arith, room)) in
    let small = small-header h found r none in
    let not_long : is_long_header h ≡ false =
    ne_eqb h 0xfe (λ e. absurd (omega (arith, small.0, e))) in
    let follows : following_length h bs ≡ n = short-follow h bs not_long in
    let fits : n ≤ length bs = room in
    let one : 1 + n ≡ suc n = omega arith in
    let p = piece_by offset h found (item_of h found) in
    let front : front_piece false offset (h ∷ bs) ≡ Ok p =
    whole-front false offset (h ∷ bs) h n bs refl (sym follows) fits
    ∙ ap (λ k. Ok (whole_piece offset (take k (h ∷ bs)))) one in
    let stood : length p.stood ≡ suc n =
    ap length (piece-stood offset h found (item_of h found)) ∙ ap suc size in
    let first = first-piece false offset (h ∷ bs) p front in
    let cut : pieces_from false offset 0 (h ∷ bs) ≡ Ok (p ∷ rest.0) =
    first.2
    ∙ ap (λ k. with_piece offset (Ok p) (pieces_from false (offset + k) 0 (drop k (h ∷ bs)))) stood
    ∙ ap (with_piece offset (Ok p)) rest.1 in
    let short : is_short_length (length found) ≡ true =
    ap is_short_length size ∙ short-size h in
    let agree : Agrees (core_item h found) (item_in p) =
    subst (λ o. Agrees (core_item h found) o) (sym (piece-item offset h found (item_of h found)))
    (subst (λ c. Agrees c (standing (item_of h found) (item_of (prefix h + 1) (0 ∷ []))))
    (sym small.1) (agrees h found small.0 short)) in (
      p ∷ rest.0,
      cut,
      step-taken total (core_item h found) r (item_in p) (filter_map item_in rest.0)
          none agree rest.2,
    )

refused-not : (offset : ℕ) (reason : RefusalReason) (r s : ReadingRecord)
    → s ≡ refused offset reason r → s.refusal ≡ None → ⊥
refused-not offset reason r s is none =
    let some = ap (λ (t : ReadingRecord). t.refusal) is in
    let bad : refused offset reason r ≡ s = sym is in cc

-- the bytes behind an item are taken, behind any reading that refuses nothing of them
abbrev Later : ℕ → ℕ → ℕ → List ℕ → Type 0
Later n total h bs = (offset : ℕ) (r : ReadingRecord) → length (drop (data_length h) bs) ≤ n
    → (read_all n total (drop (data_length h) bs) r).refusal ≡ None
    → AreTakenFrom offset (drop (data_length h) bs) r

by-refusal : (o : Option RefusalReason) (n total offset h : ℕ) (bs : List ℕ) (r : ReadingRecord)
    → length bs ≤ n → (read_all (suc n) total (h ∷ bs) r).refusal ≡ None
    → nat_lt (length bs) (data_length h) ≡ false
    → refusal_of (core_item h (take (data_length h) bs)) r ≡ o → Later n total h bs
    → AreTakenFrom offset (h ∷ bs) r
by-refusal (Some reason) n total offset h bs r few none room is later =
    absurd (refused-not (total - length (h ∷ bs)) reason r (read_all (suc n) total (h ∷ bs) r)
    (read-refused n total h bs reason r room is) none)
by-refusal None n total offset h bs r few none room is later =
    let fits : data_length h ≤ length bs = ltb-false (length bs) (data_length h) room in
    let at = total - length (h ∷ bs) in
    let x = core_item h (take (data_length h) bs) in
    let size = length-drop (data_length h) bs in
    let rest : length (drop (data_length h) bs) ≤ n = omega (arith, few, size) in
    one-taken at offset h bs r fits is
    (later (offset + suc (data_length h)) (behind at x r) rest
    (sym (ap (λ (t : ReadingRecord). t.refusal) (read-on n total h bs r room is)) ∙ none))

by-size : (b : Bool) (n total offset h : ℕ) (bs : List ℕ) (r : ReadingRecord)
    → length bs ≤ n → (read_all (suc n) total (h ∷ bs) r).refusal ≡ None
    → nat_lt (length bs) (data_length h) ≡ b → Later n total h bs
    → AreTakenFrom offset (h ∷ bs) r
by-size true n total offset h bs r few none short later =
    absurd (refused-not (total - length (h ∷ bs)) refusal.CutShort r
    (read_all (suc n) total (h ∷ bs) r) (read-cut n total h bs r short) none)
by-size false n total offset h bs r few none room later =
    by-refusal (refusal_of (core_item h (take (data_length h) bs)) r) n total offset h bs r few none
    room refl later

read-taken : (n total offset : ℕ) (bytes : List ℕ) (r : ReadingRecord) → length bytes ≤ n
    → (read_all n total bytes r).refusal ≡ None → AreTakenFrom offset bytes r
read-taken n total offset [] r few none = ([], refl, refl)
read-taken zero total offset (h ∷ bs) r few none = absurd (omega (arith, few))
read-taken (suc n) total offset (h ∷ bs) r few none =
    let rest : length bs ≤ n = omega (arith, few) in
    by-size (nat_lt (length bs) (data_length h)) n total offset h bs r rest none refl
    (λ o q s e. read-taken n total o (drop (data_length h) bs) q s e)

-- of local items whose main items are left out nothing is asked

ended-item : (b : Bool) (p : PieceRecord)
    → item_in (ended b p) ≡ cond (b && has_local (item_in p)) None (item_in p)
ended-item b p = by (b && has_local (item_in p)) where
  by : (c : Bool) → item_in (cond c (left_out reason.EndedLocal p.offset p.stood) p)
      ≡ cond c None (item_in p)
  by true = refl
  by false = refl

drop-same : (b : Bool) (o : Option ItemType) (pushes opened : ℕ) (xs ys : List ItemType)
    → ((m n : ℕ) → are_taken m n xs ≡ are_taken m n ys)
    → are_taken pushes opened (cons_option (cond (b && has_local o) None o) xs)
    ≡ are_taken pushes opened (cons_option o ys)
drop-same true None pushes opened xs ys same = same pushes opened
drop-same false None pushes opened xs ys same = same pushes opened
drop-same true (Some (items.Local x)) pushes opened xs ys same = same pushes opened
drop-same true (Some x) pushes opened xs ys same =
    ap (λ t. (has_front pushes opened x && is_moderate x) && t)
    (same (pushes_behind pushes x) (opened_behind opened x))
drop-same false (Some x) pushes opened xs ys same =
    ap (λ t. (has_front pushes opened x && is_moderate x) && t)
    (same (pushes_behind pushes x) (opened_behind opened x))

ended-same : (ps : List PieceRecord) (pushes opened : ℕ)
    → are_taken pushes opened (filter_map item_in (without_ended ps))
    ≡ are_taken pushes opened (filter_map item_in ps)
ended-same [] pushes opened = refl
ended-same (p ∷ ps) pushes opened =
    ap (λ o. are_taken pushes opened (cons_option o (filter_map item_in (without_ended ps))))
    (ended-item (ends_unknown ps) p)
    ∙ drop-same (ends_unknown ps) (item_in p) pushes opened (filter_map item_in (without_ended ps))
    (filter_map item_in ps) (λ m n. ended-same ps m n)

-- what Linux takes hosts take
pub taken-by-hosts : (limit : Option ℕ) (bytes : List ℕ) → length bytes ≤ 65536
    → IsTakenByLinux bytes → IsTakenByHosts (linux_options limit) bytes
taken-by-hosts limit [] short taken = cc
taken-by-hosts limit (b ∷ bs) short taken =
    let most : length (b ∷ bs) ≤ length (b ∷ bs) = omega arith in
    let from = read-taken (length (b ∷ bs)) (length (b ∷ bs)) 0 (b ∷ bs) nothing_kept most taken in
    record {
      hosts = refl;
      short = short;
      read = without_ended from.0;
      reads = ap then_ended from.1;
      taken = ended-same from.0 0 0 ∙ from.2;
    }

pub taken-by-options : (limit : Option ℕ) (options : RepairOptions) (bytes : List ℕ)
    → options ≡ linux_options limit → length bytes ≤ 65536 → IsTakenByLinux bytes
    → IsTakenByHosts options bytes
taken-by-options limit options bytes is short taken =
    subst (λ o. IsTakenByHosts o bytes) (sym is) (taken-by-hosts limit bytes short taken)
