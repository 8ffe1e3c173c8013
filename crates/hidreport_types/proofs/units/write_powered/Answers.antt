use Rattle.std.proofs.Common.{rules, ◌≡◌, ℕ, List, [], ◌++◌, Option, Some, refl, subst}
use Rattle.std.specs.Option.{option_map, unwrap_or}
use Rattle.std.specs.Fmt.{HasWrittenStyled}
use Rattle.std.proofs.Output.{has_written_styled_append}
use Rattle.hidreport_types.specs.UnitText.{exponent_text}
use Rattle.hidreport_types.proofs.units.write_powered.Goals as goal

pub returns-in_ok-write_str-in-Some-clause-styled :
    goal.returns-in_ok-write_str-in-Some-clause-styled
returns-in_ok-write_str-in-Some-clause-styled g c = λ flush ok.
    let took = g.W.Write.write_str_gives in
    let name = c.args.name.now in
    let first = c.in_ok-write_str-in-Some.ensures.styled flush refl in
    let second = c.write_str-in-Some.ensures.styled first.flush ok in
    let text : Some c.in-Some.superscript.now ≡ exponent_text c.args.exponent = search rules in
    subst (λ (o : Option (List ℕ)). HasWrittenStyled took c.args.f.now
    (unwrap_or (option_map (λ text. name ++ text) o) []) c.write_str-in-Some.new.self)
    text (has_written_styled_append took _ _ _ _ _ first second)
