-- What is written to a caller's array, part by part, and what C is told of it.
use Rattle.std.proofs.Common.{◌≡◌, ℕ, zero, suc, ◌+◌, ◌<◌, ◌≤◌, ◌⊎◌, List, [], ◌∷◌, ◌++◌, length}
use Rattle.std.proofs.Common.{take, drop}
use Rattle.std.proofs.Common.{slice_set, Option, None, Some, Result, Ok, Err, inl, inr}
use Rattle.std.proofs.Common.{refl, ap, sym, ◌∙◌, arith, string_bytes, map, get_or, append_assoc}
use Rattle.std.proofs.Common.{length-append}
use borrow.Rule.Slice.PartMut.{put_mid}
use Rattle.std.proofs.Common.{true, false, ◌-◌, append-nil}
use Rattle.std.proofs.Math.Dec.{leb}
use Rattle.std.proofs.Math.Nat.{min-eq_left, min-eq_right, min-le_left, min-le_right}
use Rattle.std.proofs.lemmas.Bool.Decides.{leb_tells}
use Rattle.std.proofs.lemmas.List.{drop_all, length-drop, length-map, length-take-le, map_more}
use Rattle.std.proofs.lemmas.List.{take_rest}
use Rattle.std.specs.Prelude.{min}
use Rattle.std.proofs.Math.Seq.{drop-nil, take-nil}
use Rattle.hidreport.specs.Answer.{Refusal, Refuses, InvalidData, OutOfBounds, MismatchingReportId, BudgetExceeded}
use Rattle.hidreport_c.specs.Options.{read_by}
use Rattle.hidreport_c.specs.declared.options.Reading.{Reading}
use Rattle.hidreport.specs.Records.{DescriptorRecord, ReportRecord}
use Rattle.hidreport.specs.ParserError.{ParserError}
use Rattle.hidreport.specs.ParserError.TheVariants as errors
use Rattle.hidreport_c.specs.Answer.{Lists, ListsBy, IsRead, IsReadAs, Tells, array_after}
use Rattle.hidreport_c.specs.Answer.{counted, error_as_c, listed, refusal_as_c}
use Rattle.hidreport_c.specs.Describe.{AreReports, reports_in_direction}
use Rattle.hidreport_c.specs.Message.{Says, message_in, message_of, words_of}
use Rattle.hidreport_c.specs.declared.structs.HidreportAnswer.{HidreportAnswer}

-- nothing written changes nothing
pub written-none : {A : Type 0} (old : List A) → array_after [] old ≡ old
written-none old = ap (λ xs. xs ++ old) (take-nil (length old))

-- one more is written behind those before it
pub written-next : {A : Type 0} (xs old : List A) (x : A) → length xs < length old
    → slice_set (array_after xs old) (length xs) x ≡ array_after (xs ++ x ∷ []) old
written-next [] [] x within = absurd (omega (arith, within))
written-next [] (o ∷ old) x within = ap (λ rest. x ∷ rest) (sym (written-none old))
written-next (y ∷ xs) [] x within = absurd (omega (arith, within))
written-next (y ∷ xs) (o ∷ old) x within =
    ap (λ rest. y ∷ rest) (written-next xs old x (omega (arith, within)))

-- where the array is full, nothing more is
pub written-full : {A : Type 0} (xs more old : List A) → length old ≤ length xs
    → array_after xs old ≡ array_after (xs ++ more) old
written-full [] more [] full = sym (drop-nil (length more))
written-full [] more (o ∷ old) full = absurd (omega (arith, full))
written-full (x ∷ xs) more [] full =
    drop-nil (length (x ∷ xs)) ∙ sym (drop-nil (length ((x ∷ xs) ++ more)))
written-full (x ∷ xs) more (o ∷ old) full =
    ap (λ rest. x ∷ rest) (written-full xs more old (omega (arith, full)))

-- an array keeps its length
pub written-length : {A : Type 0} (xs old : List A) → length (array_after xs old) ≡ length old
written-length [] old = ap length (written-none old)
written-length (x ∷ xs) [] = refl
written-length (x ∷ xs) (o ∷ old) = ap suc (written-length xs old)

-- what is written behind what was written, into the rest of the array
pub written-behind : {A : Type 0} (xs ys old : List A) (n : ℕ) → n ≤ length xs → n ≤ length old
    → (length xs ≤ n) ⊎ (length old ≤ n)
    → take n (array_after xs old) ++ array_after ys (drop n (array_after xs old))
    ≡ array_after (xs ++ ys) old
written-behind [] ys old zero most room past = ap (array_after ys) (written-none old)
written-behind [] ys old (suc n) most room past = absurd (omega (arith, most))
written-behind (x ∷ xs) ys [] zero most room past =
    ap (array_after ys) (drop-nil (length (x ∷ xs)))
    ∙ drop-nil (length ys) ∙ sym (drop-nil (length ((x ∷ xs) ++ ys)))
written-behind (x ∷ xs) ys [] (suc n) most room past = absurd (omega (arith, room))
written-behind (x ∷ xs) ys (o ∷ old) zero most room (inl past) = absurd (omega (arith, past))
written-behind (x ∷ xs) ys (o ∷ old) zero most room (inr past) = absurd (omega (arith, past))
written-behind (x ∷ xs) ys (o ∷ old) (suc n) most room (inl past) =
    ap (λ rest. x ∷ rest) (written-behind xs ys old n (omega (arith, most)) (omega (arith, room))
    (inl (omega (arith, past))))
written-behind (x ∷ xs) ys (o ∷ old) (suc n) most room (inr past) =
    ap (λ rest. x ∷ rest) (written-behind xs ys old n (omega (arith, most)) (omega (arith, room))
    (inr (omega (arith, past))))

least-by : (a b i : ℕ) → min a b ≤ i → ((leb a b ≡ true) × (a ≤ b)) ⊎ ((leb a b ≡ false) × (b < a))
    → (a ≤ i) ⊎ (b ≤ i)
least-by a b i past (inl (test, below)) = inl (rw (sym (min-eq_left below)) past)
least-by a b i past (inr (test, above)) =
    let below : b ≤ a = omega (arith, above) in
    inr (rw (sym (min-eq_right below)) past)

-- an index past the lesser of two numbers is past one of them
pub past-least : (a b i : ℕ) → min a b ≤ i → (a ≤ i) ⊎ (b ≤ i)
past-least a b i past = least-by a b i past (leb_tells a b)

past-in : {a b c n : ℕ} → (a ≤ n) ⊎ (b ≤ n) → b ≡ c → (a ≤ n) ⊎ (c ≤ n)
past-in (inl h) is = inl h
past-in (inr h) is = inr (rw (sym is) h)

-- the same of a slice from that place on
pub part-joined : {A : Type 0} (xs ys old array new : List A) (n : ℕ) → array ≡ array_after xs old
    → n ≡ min (length xs) (length array)
    → new ≡ array_after ys (take (length array - n) (drop n array))
    → put_mid n (length array - n) array new ≡ array_after (xs ++ ys) old
part-joined xs ys old array new n sofar least is =
    let whole : length array ≡ length old = ap length sofar ∙ written-length xs old in
    let most : n ≤ length xs = omega (arith, least, min-le_left (length xs) (length array)) in
    let room : n ≤ length array = omega (arith, least, min-le_right (length xs) (length array)) in
    let end : length (drop n array) ≤ length array - n = omega (arith, length-drop n array) in
    let past = past-least (length xs) (length array) n (omega (arith, least)) in
    let none : drop (length array - n) (drop n array) ≡ [] =
    drop_all (length array - n) (drop n array) end in
    ap (λ l. take n array ++ (new ++ l)) none
    ∙ ap (λ l. take n array ++ l) (append-nil new ∙ is
    ∙ ap (array_after ys) (take_rest array n))
    ∙ ap (λ a. take n a ++ array_after ys (drop n a)) sofar
    ∙ written-behind xs ys old n most (omega (arith, room, whole)) (past-in past whole)

-- the same with the count of what is listed
pub more-joined : {A : Type 0} (before own old : List A) {all array new : List A}
    {count there n total : ℕ} → all ≡ before ++ own → count ≡ length before
    → there ≡ length own → total ≡ count + there → array ≡ array_after before old
    → n ≡ min count (length array)
    → new ≡ array_after own (take (length array - n) (drop n array))
    → (total ≡ length all) × (put_mid n (length array - n) array new ≡ array_after all old)
more-joined before own old {array = array} {new = new} {n = n} is size more sum sofar least fresh = (
  omega (arith, sum, size, more, length-append before own, ap length is),
  part-joined before own old array new n sofar (least ∙ ap (λ k. min k (length array)) size) fresh
      ∙ ap (λ l. array_after l old) (sym is),
)

-- one part more behind those that were listed before
next-part : {P A : Type 0} (f : P → A) (parts : List P) (i : ℕ) (p : P) (before : List A)
    → i < length parts → p ≡ get_or parts i p
    → before ++ map f (take (i + 1) parts) ≡ (before ++ map f (take i parts)) ++ f p ∷ []
next-part f parts i p before within is =
    ap (λ l. before ++ l) (map_more f parts i p within
    ∙ ap (λ q. map f (take i parts) ++ f q ∷ []) (sym is))
    ∙ sym (append_assoc before (map f (take i parts)) (f p ∷ []))

so-many : {P A : Type 0} (f : P → A) (parts : List P) (i : ℕ) (before : List A)
    → i < length parts → length (before ++ map f (take i parts)) ≡ length before + i
so-many f parts i before within =
    let below : i ≤ length parts = omega (arith, within) in
    omega (
      arith,
      length-append before (map f (take i parts)),
      length-map (take i parts) f,
      length-take-le i parts below,
    )

-- a part written behind those before it, where there is room
pub part-written : {P A : Type 0} (f : P → A) (parts : List P) (i : ℕ) (p : P)
    (before old array : List A) (place : ℕ)
    → i < length parts → p ≡ get_or parts i p → place ≡ length before + i
    → array ≡ array_after (before ++ map f (take i parts)) old → place < length array
    → slice_set array place (f p) ≡ array_after (before ++ map f (take (i + 1) parts)) old
part-written f parts i p before old array place within is at sofar room =
    let zs = before ++ map f (take i parts) in
    let count = so-many f parts i before within in
    let whole : length array ≡ length old = ap length sofar ∙ written-length zs old in
    let here : place ≡ length zs = at ∙ sym count in
    let fits : length zs < length old = omega (arith, here, whole, room) in
    ap (λ a. slice_set a place (f p)) sofar
    ∙ ap (λ n. slice_set (array_after zs old) n (f p)) here
    ∙ written-next zs old (f p) fits
    ∙ ap (λ l. array_after l old) (sym (next-part f parts i p before within is))

-- where there is none, nothing changes
pub part-left : {P A : Type 0} (f : P → A) (parts : List P) (i : ℕ) (p : P)
    (before old array : List A) (place : ℕ)
    → i < length parts → p ≡ get_or parts i p → place ≡ length before + i
    → array ≡ array_after (before ++ map f (take i parts)) old → length array ≤ place
    → array ≡ array_after (before ++ map f (take (i + 1) parts)) old
part-left f parts i p before old array place within is at sofar full =
    let zs = before ++ map f (take i parts) in
    let count = so-many f parts i before within in
    let whole : length array ≡ length old = ap length sofar ∙ written-length zs old in
    let here : place ≡ length zs = at ∙ sym count in
    let fits : length old ≤ length zs = omega (arith, here, whole, full) in
    sofar ∙ written-full zs (f p ∷ []) old fits
    ∙ ap (λ l. array_after l old) (sym (next-part f parts i p before within is))

refused-as : {A B : Type 0} (answer : Result A Refusal) (refusal : Refusal) (parts : A → List B)
    (old : List B) → answer ≡ Err refusal
    → Lists (listed parts answer) old old (refusal_as_c refusal)
refused-as (Ok x) refusal parts old h = cc
refused-as (Err e) refusal parts old h =
    let same : e ≡ refusal = cc in inl (ap refusal_as_c (sym same), sym (written-none old))

-- a refusal of a list is told, and nothing written
pub lists-refused : {A B : Type 0} (error : ParserError) (answer : Result A Refusal)
    (parts : A → List B) (old : List B) → Refuses error answer
    → Lists (listed parts answer) old old (error_as_c error)
lists-refused (errors.InvalidData offset message) answer parts old h =
    refused-as answer _ parts old h
lists-refused errors.OutOfBounds answer parts old h = refused-as answer _ parts old h
lists-refused errors.MismatchingReportId answer parts old h = refused-as answer _ parts old h
lists-refused errors.OutOfMemory answer parts old h = inr (refl, refl)
lists-refused (errors.BudgetExceeded offset) answer parts old h =
    refused-as answer _ parts old h

told-refused : {A B : Type 0} (told : HidreportAnswer) (answer : Result B Refusal)
    (parts : B → List A) (old : List A) → Tells told answer
    → Lists (listed parts answer) old old told
told-refused told (Ok d) parts old h = inr (h, refl)
told-refused told (Err r) parts old (inl h) = inr (h, refl)
told-refused told (Err r) parts old (inr h) = inl (h, sym (written-none old))

says-as : {A : Type 0} (answer : Result A Refusal) (refusal : Refusal) (old new : List ℕ)
    (told : HidreportAnswer) → answer ≡ Err refusal
    → Says (Some (message_of refusal)) old new told → Lists (message_in answer) old new told
says-as (Ok x) refusal old new told h says = cc
says-as (Err e) refusal old new told h says =
    let same : e ≡ refusal = cc in
    inl (rw (ap message_of same) says)

-- the words of an error are those of the refusal
pub says-refusal : {A : Type 0} (error : ParserError) (answer : Result A Refusal)
    (old new : List ℕ) (told : HidreportAnswer) → Refuses error answer
    → Says (words_of error) old new told → Lists (message_in answer) old new told
says-refusal (errors.InvalidData offset message) answer old new told h says =
    says-as answer (InvalidData offset (string_bytes message)) old new told h says
says-refusal errors.OutOfBounds answer old new told h says =
    says-as answer OutOfBounds old new told h says
says-refusal errors.MismatchingReportId answer old new told h says =
    says-as answer MismatchingReportId old new told h says
says-refusal errors.OutOfMemory answer old new told h says = inr says
says-refusal (errors.BudgetExceeded offset) answer old new told h says =
    says-as answer (BudgetExceeded offset) old new told h says

-- what is told by the options that were chosen
pub lists-chosen : {A O : Type 0} (chosen : Option O) (options : O)
    (answer : O → Result (List A) Refusal) (old new : List A) (told : HidreportAnswer)
    → chosen ≡ Some options → Lists (answer options) old new told
    → ListsBy answer chosen old new told
lists-chosen None options answer old new told is lists = cc
lists-chosen (Some z) options answer old new told is lists =
    let same : z ≡ options = cc in
    rw (ap answer same) lists

-- of what isn't refused there is nothing to say
pub says-nothing : {A O : Type 0} (chosen : Option O) (options : O)
    (answer : O → Result A Refusal) (x : A) (old : List ℕ) (told : HidreportAnswer)
    → chosen ≡ Some options → answer options ≡ Ok x → told ≡ counted 0
    → ListsBy (λ o. message_in (answer o)) chosen old old told
says-nothing chosen options answer x old told is read h =
    lists-chosen chosen options (λ o. message_in (answer o)) old old told is
    (rw read (inl (h, sym (written-none old))))

-- what is told in place of what is read is told of each list in it
pub lists-unread-as : {A B : Type 0} (read : Reading → List ℕ → Result B Refusal)
    (told : HidreportAnswer) (options : Option Reading)
    (bytes : List ℕ) (parts : B → List A) (old : List A)
    → IsReadAs read (Err told) options bytes
    → ListsBy (λ chosen. listed parts (read chosen bytes)) options old old told
lists-unread-as read told None bytes parts old h = (h, refl)
lists-unread-as read told (Some options) bytes parts old h =
    told-refused told (read options bytes) parts old h

-- a list in what was read is told as it is there
pub lists-read-as : {A B : Type 0} (read : Reading → List ℕ → Result B Refusal) (d : B)
    (options : Option Reading) (bytes : List ℕ) (parts : B → List A) (old new : List A)
    (told : HidreportAnswer) → IsReadAs read (Ok d) options bytes
    → Lists (Ok (parts d)) old new told
    → ListsBy (λ chosen. listed parts (read chosen bytes)) options old new told
lists-read-as read d None bytes parts old new told h lists = absurd h
lists-read-as read d (Some options) bytes parts old new told h lists =
    rw h lists

-- both of a descriptor
pub lists-unread : {A : Type 0} (told : HidreportAnswer) (options : Option Reading)
    (bytes : List ℕ) (parts : DescriptorRecord → List A) (old : List A)
    → IsRead (Err told) options bytes
    → ListsBy (λ chosen. listed parts (read_by chosen bytes)) options old old told
lists-unread told options bytes parts old h =
    lists-unread-as read_by told options bytes parts old h

pub lists-read : {A : Type 0} (d : DescriptorRecord) (options : Option Reading)
    (bytes : List ℕ) (parts : DescriptorRecord → List A) (old new : List A)
    (told : HidreportAnswer) → IsRead (Ok d) options bytes
    → Lists (Ok (parts d)) old new told
    → ListsBy (λ chosen. listed parts (read_by chosen bytes)) options old new told
lists-read d options bytes parts old new told h lists =
    lists-read-as read_by d options bytes parts old new told h lists

-- a list in the reports of a direction is told as it is there
pub lists-in : {A : Type 0} (direction : ℕ) (reports : List ReportRecord)
    (options : Option Reading) (bytes : List ℕ) (parts : List ReportRecord → List A)
    (old new : List A) (told : HidreportAnswer) → AreReports direction reports options bytes
    → Lists (Ok (parts reports)) old new told
    → ListsBy (λ chosen. listed (λ d. parts (reports_in_direction direction d))
    (read_by chosen bytes)) options old new told
lists-in direction reports options bytes parts old new told are lists =
    lists-read are.descriptor options bytes (λ d. parts (reports_in_direction direction d)) old new
    told are.read (rw (sym are.are) lists)
