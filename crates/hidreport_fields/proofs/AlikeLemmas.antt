-- Equal usages, and lists that are equal by what f says of their elements.
use Rattle.std.proofs.Common.{◌≡◌, ◌&&◌, ℕ, ◌+◌, ◌<◌, ◌++◌, List, [], ◌∷◌, get_or, length, map, nat_eq, rules, take}
use Rattle.std.proofs.lemmas.List.{get_or-map, map_more}
use Rattle.std.specs.Bool.{Decides}
use Rattle.hidreport_fields.specs.declared.field.usage.Usage.{Usage}

-- the same page and the same usage within it
pub usage-decides : (a b : Usage)
    → Decides (nat_eq a.usage_page b.usage_page && nat_eq a.usage_id b.usage_id) (a ≡ b)
usage-decides a b = search rules

-- where the elements before i are the same, and those at i, all up to i are
pub same-so-far : {X Y : Type 0} (f : X → Y) (xs ys : List X) (i : ℕ) (x y : X)
    → x ≡ get_or xs i x → y ≡ get_or ys i y → i < length xs → i < length ys
    → map f (take i xs) ≡ map f (take i ys) → f x ≡ f y
    → map f (take (i + 1) xs) ≡ map f (take (i + 1) ys)
same-so-far f xs ys i x y at-x at-y in-xs in-ys before here =
    let left : map f (take (i + 1) xs) ≡ map f (take i xs) ++ f (get_or xs i x) ∷ [] = map_more f xs i x in-xs in
    let right : map f (take (i + 1) ys) ≡ map f (take i ys) ++ f (get_or ys i y) ∷ [] = map_more f ys i y in-ys in
    cc

-- where all are the same, those at i are
pub same-here : {X Y : Type 0} (f : X → Y) (xs ys : List X) (i : ℕ) (x y : X)
    → x ≡ get_or xs i x → y ≡ get_or ys i y → i < length xs → i < length ys
    → map f xs ≡ map f ys → f x ≡ f y
same-here f xs ys i x y at-x at-y in-xs in-ys all =
    let left : get_or (map f xs) i (f x) ≡ f (get_or xs i x) = get_or-map f xs i x (f x) in-xs in
    let right : get_or (map f ys) i (f x) ≡ f (get_or ys i y) = get_or-map f ys i y (f x) in-ys in
    cc
