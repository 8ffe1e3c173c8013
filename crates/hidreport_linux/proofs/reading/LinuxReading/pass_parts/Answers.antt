use Rattle.std.proofs.Common.{◌∙◌, ap}
use Rattle.hidreport_linux.specs.CoreFields.{if_field}
use Rattle.hidreport_linux.specs.CoreReading.{behind_id, if_contact, if_elements, if_past_items}
use Rattle.hidreport_linux.specs.CoreReading.{with_report}
use Rattle.hidreport_linux.proofs.reading.LinuxReading.pass_parts.Goals as goal

pub returns : goal.returns
returns c =
    c.pass_id.ensures ∙ ap (behind_id c.args.offset)
    (c.in_ok-keep_field.ensures ∙ ap (if_field c.args.offset c.args.direction c.args.flags)
    (c.note_elements.ensures ∙ ap (if_elements c.args.offset c.args.direction)
    (c.ask_for_driver.ensures ∙ ap (if_contact c.args.direction c.args.flags)
    (c.leave_items_out.ensures ∙ ap (if_past_items c.args.offset c.args.direction)
    (c.add_to_report.ensures ∙ ap (with_report c.args.direction)
    c.in_ok-register_report.ensures)))))
