use Rattle.std.proofs.Common.{◌≡◌, None, rules}
use Rattle.hidreport.specs.Repair.{repaired_view}
use Rattle.hidreport_linux.specs.CoreReading.{linux_reading}
use Rattle.hidreport_linux.proofs.DeviceLemmas.{outlined}
use Rattle.hidreport_linux.proofs.linux_device.outline_as_linux.Goals as goal

pub returns-clause-exact : goal.returns-clause-exact
returns-clause-exact c =
    let mended = repaired_view c.in_ok-repaired.repaired in
    let none : (linux_reading c.args.bytes.now).refusal ≡ None = search rules in
    let same : c.as_slice.result.now ≡ mended.bytes = search rules in
    outlined c.args.limit c.args.bytes.now c.linux_options-options.result mended
    c.as_slice.result.now c.in_ok-outline.outline none c.linux_options-options.ensures
    c.in_ok-repaired.ensures.exact same c.in_ok-outline.ensures.exact
