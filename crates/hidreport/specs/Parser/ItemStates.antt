-- What the parser keeps in force.
use Rattle.std.specs.Prelude.{List}
use Rattle.hidreport.specs.ItemState.{ItemState}
use Rattle.hidreport.specs.declared.parser.globals.Globals.{Globals}
use Rattle.hidreport.specs.declared.parser.paged_local.PagedLocal.{PagedLocal}
use Rattle.hidreport.specs.declared.parser.push_keeps.PushKeeps.{PushKeeps}
use Rattle.hidreport.specs.declared.parser.usages_by.UsagesBy.{UsagesBy}

-- what a Push keeps, what is in force now, and what each open Push keeps, outermost first
pub record ItemStates : Type 0 where
  pub push_keeps : PushKeeps
  pub now : ItemState
  pub stack : List ItemState

-- the globals and these locals as what is in force
abbrev pub item_state_of : UsagesBy → Globals → List PagedLocal → ItemState
item_state_of by g locals = record {
  usage_page = g.usage_page;
  logical_minimum = g.logical_minimum;
  logical_maximum = g.logical_maximum;
  physical_minimum = g.physical_minimum;
  physical_maximum = g.physical_maximum;
  unit_exponent = g.unit_exponent;
  unit = g.unit;
  report_size = g.report_size;
  report_id = g.report_id;
  report_count = g.report_count;
  locals = locals;
  usages_by = by;
}
