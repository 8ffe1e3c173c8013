-- What two fields lie in together (Section 6.2.2.6).
use Rattle.std.specs.Prelude.{ℕ, ◌==◌, zero, suc, if◌then◌else◌, List, [], ◌∷◌}
use Rattle.hidreport_fields.specs.Records.{CollectionRecord}

-- how many of the outermost collections are the same
abbrev pub shared : List CollectionRecord → List CollectionRecord → ℕ
shared [] others = zero
shared (c ∷ cs) [] = zero
shared (c ∷ cs) (d ∷ ds) = if c.id == d.id then suc (shared cs ds) else zero
