use Rattle.std.proofs.Common.{rules, ◌∷◌, ◌++◌, [], ◌∙◌, ap}
use Rattle.hidreport_multitouch.proofs.TouchedLemmas.{last-one, one-more}
use Rattle.hidreport_multitouch.specs.Fields.{touched_up_to}
use Rattle.hidreport_multitouch.proofs.driven_devices.touching.begin_devices.Goals as goal

pub loop-device-preserved : goal.loop-device-preserved
loop-device-preserved c =
    let items = c.in_ok-push.ensures.items
    ∙ ap (λ one. c.loop-device.touched.items ++ one ∷ []) c.new.ensures in (
      search rules,
      (
        search rules,
        ap (touched_up_to c.args.current) items
            ∙ one-more c.loop-device.touched.items c.args.current (search rules)
            ∙ c.loop-device.invariant.1.1,
      ),
    )

pub returns : goal.returns
returns c =
    c.in_ok-push-2.ensures.items
    ∙ ap (λ one. c.loop-device.touched.items ++ one ∷ []) c.new-2.ensures
    ∙ last-one c.loop-device.touched.items c.args.current (search rules)
    ∙ c.loop-device.invariant.1.1
