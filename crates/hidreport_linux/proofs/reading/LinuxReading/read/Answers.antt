use Rattle.std.proofs.Common.{◌≡◌, ◌∙◌, ◌-◌, arith, false, length, nat_lt, suc, true}
use Rattle.hidreport_items.specs.Spelling.{data_length}
use Rattle.hidreport_linux.proofs.ReadingLemmas.{read-cut-at, read-on-at, read-refused-at}
use Rattle.hidreport_linux.proofs.reading.LinuxReading.read.Goals as goal

pub returns-in_default-split_at_checked : goal.returns-in_default-split_at_checked
returns-in_default-split_at_checked c =
    let bs = c.in-Some.behind.now in
    let more : c.loop-left.left ≡ suc (c.loop-left.left - 1) =
    omega (arith, c.loop-left-test.true) in
    let short : nat_lt (length bs) (data_length c.in-Some.header.now) ≡ true =
    grind (arith, c.in_default-split_at_checked.ensures.cases, c.size_of.ensures) in
    read-cut-at c.loop-left.left (c.loop-left.left - 1) (length c.args.bytes.now)
    c.in-Some.header.now c.saturating_sub-offset.result bs c.loop-left.rest.now c.loop-left.self
    c.refuse.new.self more c.in-Some.ensures.cases.0 short c.saturating_sub-offset.ensures
    c.refuse.ensures
    ∙ c.loop-left.invariant

pub returns-in-Some-refusal_of : goal.returns-in-Some-refusal_of
returns-in-Some-refusal_of c =
    let cut = c.in-Some-split_at_checked.ensures.cases in
    let bs = c.in-Some.behind.now in
    let more : c.loop-left.left ≡ suc (c.loop-left.left - 1) =
    omega (arith, c.loop-left-test.true) in
    let enough : nat_lt (length bs) (data_length c.in-Some.header.now) ≡ false =
    grind (arith, cut.0, c.size_of.ensures) in
    read-refused-at c.loop-left.left (c.loop-left.left - 1) (length c.args.bytes.now)
    c.in-Some.header.now c.size_of.result c.saturating_sub-offset.result bs c.loop-left.rest.now
    c.in-Some-split_at_checked.data.now c.of-item.result c.refusal_of.result
    c.in-Some-refusal_of.reason c.loop-left.self c.refuse-in-Some-refusal_of.new.self
    more c.in-Some.ensures.cases.0 c.size_of.ensures enough cut.1 c.of-item.ensures
    c.refusal_of.ensures c.in-Some-refusal_of.is c.saturating_sub-offset.ensures
    c.refuse-in-Some-refusal_of.ensures
    ∙ c.loop-left.invariant

pub loop-left-preserved : goal.loop-left-preserved
loop-left-preserved c =
    let cut = c.in-Some-split_at_checked.ensures.cases in
    let bs = c.in-Some.behind.now in
    let more : c.loop-left.left ≡ suc (c.loop-left.left - 1) =
    omega (arith, c.loop-left-test.true) in
    let enough : nat_lt (length bs) (data_length c.in-Some.header.now) ≡ false =
    grind (arith, cut.0, c.size_of.ensures) in
    read-on-at c.loop-left.left (c.loop-left.left - 1) (length c.args.bytes.now)
    c.in-Some.header.now c.size_of.result c.saturating_sub-offset.result bs c.loop-left.rest.now
    c.in-Some-split_at_checked.data.now c.in-Some-split_at_checked.behind.now c.of-item.result
    c.refusal_of.result c.loop-left.self c.pass.new.self
    more c.in-Some.ensures.cases.0 c.size_of.ensures enough cut.1 cut.2 c.of-item.ensures
    c.refusal_of.ensures c.in_default-refusal_of.is c.saturating_sub-offset.ensures
    c.in_ok-pass.ensures
    ∙ c.loop-left.invariant
