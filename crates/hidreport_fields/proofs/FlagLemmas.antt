-- Flags that are compared one by one.
use Rattle.std.proofs.Common.{◌≡◌, Bool, true, false, ◌&&◌, refl, ap, ◌∙◌, subst}
use Rattle.std.proofs.Common.{Option, None, Some}
use Rattle.std.specs.Bool.{beq}
use Rattle.std.specs.Option.{option_eq}
use Rattle.hidreport_items.specs.Flags.{Flags}

-- all nine are equal
abbrev pub are_equal : Flags → Flags → Bool
are_equal f g = beq f.constant g.constant && (beq f.variable g.variable
    && (beq f.relative g.relative && (beq f.wrap g.wrap && (beq f.nonlinear g.nonlinear
    && (beq f.no_preferred_state g.no_preferred_state && (beq f.null_state g.null_state
    && (beq f.volatile g.volatile && beq f.buffered_bytes g.buffered_bytes)))))))

same : (a b : Bool) → beq a b ≡ true → a ≡ b
same true true e = refl
same true false e = cc
same false true e = cc
same false false e = refl

alike : (a : Bool) → beq a a ≡ true
alike true = refl
alike false = refl

front : (a b : Bool) → (a && b) ≡ true → a ≡ true
front true b e = refl
front false b e = cc

rest : (a b : Bool) → (a && b) ≡ true → b ≡ true
rest true b e = e
rest false b e = cc

both : (a b : Bool) → a ≡ true → b ≡ true → (a && b) ≡ true
both true b d e = e
both false b d e = cc

pub equal-flags : (f g : Flags) → are_equal f g ≡ true → f ≡ g
equal-flags f g e1 =
    let e2 = rest _ _ e1 in
    let e3 = rest _ _ e2 in
    let e4 = rest _ _ e3 in
    let e5 = rest _ _ e4 in
    let e6 = rest _ _ e5 in
    let e7 = rest _ _ e6 in
    let e8 = rest _ _ e7 in
    let e9 = rest _ _ e8 in
    let h1 : Flags = record f { constant = g.constant } in
    let h2 : Flags = record h1 { variable = g.variable } in
    let h3 : Flags = record h2 { relative = g.relative } in
    let h4 : Flags = record h3 { wrap = g.wrap } in
    let h5 : Flags = record h4 { nonlinear = g.nonlinear } in
    let h6 : Flags = record h5 { no_preferred_state = g.no_preferred_state } in
    let h7 : Flags = record h6 { null_state = g.null_state } in
    let h8 : Flags = record h7 { volatile = g.volatile } in
    ap (λ b. record f { constant = b }) (same _ _ (front _ _ e1))
    ∙ ap (λ b. record h1 { variable = b }) (same _ _ (front _ _ e2))
    ∙ ap (λ b. record h2 { relative = b }) (same _ _ (front _ _ e3))
    ∙ ap (λ b. record h3 { wrap = b }) (same _ _ (front _ _ e4))
    ∙ ap (λ b. record h4 { nonlinear = b }) (same _ _ (front _ _ e5))
    ∙ ap (λ b. record h5 { no_preferred_state = b }) (same _ _ (front _ _ e6))
    ∙ ap (λ b. record h6 { null_state = b }) (same _ _ (front _ _ e7))
    ∙ ap (λ b. record h7 { volatile = b }) (same _ _ (front _ _ e8))
    ∙ ap (λ b. record h8 { buffered_bytes = b }) (same _ _ e9)

pub flags-equal : (f g : Flags) → f ≡ g → are_equal f g ≡ true
flags-equal f g e = subst (λ h. are_equal f h ≡ true) e
    (both _ _ (alike f.constant) (both _ _ (alike f.variable) (both _ _ (alike f.relative)
    (both _ _ (alike f.wrap) (both _ _ (alike f.nonlinear)
    (both _ _ (alike f.no_preferred_state) (both _ _ (alike f.null_state)
    (both _ _ (alike f.volatile) (alike f.buffered_bytes)))))))))

pub equal-options : (x y : Option Bool) → option_eq beq x y ≡ true → x ≡ y
equal-options None None e = refl
equal-options None (Some b) e = cc
equal-options (Some a) None e = cc
equal-options (Some a) (Some b) e = ap (λ z. Some z) (same a b e)

pub options-equal : (x y : Option Bool) → x ≡ y → option_eq beq x y ≡ true
options-equal x y e = subst (λ z. option_eq beq x z ≡ true) e (own x) where
  own : (z : Option Bool) → option_eq beq z z ≡ true
  own None = refl
  own (Some a) = alike a
