-- What hosts take isn't refused for what its items are.
use Rattle.std.proofs.Common.{◌≡◌, ℕ, false, List, filter_map, Ok, Err, ap, sym, ◌∙◌}
use Rattle.hidreport.specs.ItemAnswer.{GrammarFault}
use Rattle.hidreport_lists.specs.Mending.{PieceRecord, item_in, pieces}
use Rattle.hidreport.specs.Taken.{IsTakenByHosts, are_taken}
use Rattle.hidreport.specs.declared.parser.usages_by.UsagesBy.TheVariants as usages_by
use Rattle.hidreport.specs.declared.repairing.repair_options.RepairOptions.{RepairOptions}

pub taken-not : (options : RepairOptions) (bytes : List ℕ) (read : List PieceRecord)
    → pieces options.leave_out_cut_short bytes ≡ Ok read
    → are_taken 0 0 (filter_map item_in read) ≡ false → IsTakenByHosts options bytes → ⊥
taken-not options bytes read is bad law =
    let reads = law.reads in
    let same : read ≡ law.read = cc in
    let taken = law.taken in
    let so : are_taken 0 0 (filter_map item_in law.read) ≡ false =
    ap (λ l. are_taken 0 0 (filter_map item_in l)) (sym same) ∙ bad in
    cc

pub cut-not : (options : RepairOptions) (bytes : List ℕ) (fault : ℕ × GrammarFault)
    → pieces options.leave_out_cut_short bytes ≡ Err fault → IsTakenByHosts options bytes → ⊥
cut-not options bytes fault is law = let reads = law.reads in cc

pub standard-not : (options : RepairOptions) (bytes : List ℕ)
    → options.parse.usages ≡ usages_by.Standard → IsTakenByHosts options bytes → ⊥
standard-not options bytes is law = let hosts = law.hosts in cc
