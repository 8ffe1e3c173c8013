-- Collections have numbers of their own: there is one list of openings, each a collection with those
-- around it, outermost first, in which each opening stands at the number of its collection.
use Rattle.std.proofs.Common.{◌≡◌, ℕ, zero, suc, List, [], ◌∷◌, ◌++◌, length, take}
use Rattle.std.proofs.Common.{Some, slice_get, refl, sym, ap, ◌∙◌, subst, append-nil}
use Rattle.std.proofs.Common.{append_assoc}
use Rattle.hidreport_fields.specs.Records.{CollectionRecord, FieldRecord}
use Rattle.hidreport_fields.specs.Tiling.{Each, HaveOwnCollections}
use Rattle.hidreport_fields.specs.Records.{collections_of}

-- each of these, with those around it, stands at its number
abbrev pub AreOpened : List (List CollectionRecord) → List CollectionRecord → List CollectionRecord
    → Type 0
AreOpened openings around [] = Unit {0}
AreOpened openings around (c ∷ cs) =
    (slice_get openings c.id ≡ Some (around ++ c ∷ [])) × AreOpened openings (around ++ c ∷ []) cs

get-more : {A : Type 0} (xs more : List A) (i : ℕ) (x : A) → slice_get xs i ≡ Some x
    → slice_get (xs ++ more) i ≡ Some x
get-more [] more i x e = cc
get-more (y ∷ xs) more zero x e = e
get-more (y ∷ xs) more (suc i) x e = get-more xs more i x e

get-last : {A : Type 0} (xs : List A) (x : A) → slice_get (xs ++ x ∷ []) (length xs) ≡ Some x
get-last [] x = refl
get-last (y ∷ xs) x = get-last xs x

-- they still do where more are opened
pub opened-more : (openings more : List (List CollectionRecord)) (around cs : List CollectionRecord)
    → AreOpened openings around cs → AreOpened (openings ++ more) around cs
opened-more openings more around [] o = tt
opened-more openings more around (c ∷ cs) o = (
  get-more openings more c.id (around ++ c ∷ []) o.0,
  opened-more openings more (around ++ c ∷ []) cs o.1,
)

pub opened-take : (openings : List (List CollectionRecord)) (around : List CollectionRecord) (n : ℕ)
    (cs : List CollectionRecord) → AreOpened openings around cs
    → AreOpened openings around (take n cs)
opened-take openings around zero cs o = tt
opened-take openings around (suc n) [] o = tt
opened-take openings around (suc n) (c ∷ cs) o =
    (o.0, opened-take openings (around ++ c ∷ []) n cs o.1)

pub opened-append : (openings : List (List CollectionRecord))
    (around cs new : List CollectionRecord) → AreOpened openings around cs
    → AreOpened openings (around ++ cs) new → AreOpened openings around (cs ++ new)
opened-append openings around [] new o n =
    subst (λ (l : List CollectionRecord). AreOpened openings l new) (append-nil around) n
opened-append openings around (c ∷ cs) new o n = (
  o.0,
  opened-append openings (around ++ c ∷ []) cs new o.1
      (subst (λ (l : List CollectionRecord). AreOpened openings l new)
      (sym (append_assoc around (c ∷ []) cs)) n),
)

-- the collection that is opened next
pub opened-new : (openings : List (List CollectionRecord)) (around : List CollectionRecord)
    (c : CollectionRecord) → length openings ≡ c.id
    → AreOpened (openings ++ (around ++ c ∷ []) ∷ []) around (c ∷ [])
opened-new openings around c e = (
  subst (λ n. slice_get (openings ++ (around ++ c ∷ []) ∷ []) n ≡ Some (around ++ c ∷ [])) e
      (get-last openings (around ++ c ∷ [])),
  tt,
)

-- the opening of a carried collection is the list up to it
opened-at : (openings : List (List CollectionRecord)) (around cs : List CollectionRecord) (i : ℕ)
    (c : CollectionRecord) → AreOpened openings around cs → slice_get cs i ≡ Some c
    → slice_get openings c.id ≡ Some (around ++ take (suc i) cs)
opened-at openings around [] i c o e = cc
opened-at openings around (x ∷ cs) zero c o e =
    let same : x ≡ c = cc in
    subst (λ (y : CollectionRecord). slice_get openings y.id ≡ Some (around ++ x ∷ [])) same o.0
opened-at openings around (x ∷ cs) (suc i) c o e =
    opened-at openings (around ++ x ∷ []) cs i c o.1 e
    ∙ ap Some (append_assoc around (x ∷ []) (take (suc i) cs))

each-at : {A : Type 0} (P : A → Type 0) (xs : List A) (i : ℕ) (x : A) → Each P xs
    → slice_get xs i ≡ Some x → P x
each-at P [] i x each e = cc
each-at P (y ∷ xs) zero x each e = let same : y ≡ x = cc in subst P same each.0
each-at P (y ∷ xs) (suc i) x each e = each-at P xs i x each.1 e

same-some : {A : Type 0} (x y : A) → Some x ≡ Some y → x ≡ y
same-some x y e = cc

-- so one number is one opening
pub own-collections : (openings : List (List CollectionRecord)) (fields : List FieldRecord)
    → Each (λ f. AreOpened openings [] (collections_of f)) fields → HaveOwnCollections fields
own-collections openings fields each =
    λ m n i j f g c d at_m at_n at_i at_j same.
    let of_f = opened-at openings [] (collections_of f) i c
    (each-at (λ f. AreOpened openings [] (collections_of f)) fields m f each at_m) at_i in
    let of_g = opened-at openings [] (collections_of g) j d
    (each-at (λ f. AreOpened openings [] (collections_of f)) fields n g each at_n) at_j in
    same-some (take (suc i) (collections_of f)) (take (suc j) (collections_of g))
    (sym of_f ∙ ap (slice_get openings) same ∙ of_g)
