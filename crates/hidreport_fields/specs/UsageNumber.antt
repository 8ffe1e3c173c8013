-- A usage as one number (Section 5.5): the page is the upper 16 of its 32 bits.
use Rattle.std.specs.Prelude.{ℕ, ◌+◌, ◌*◌, ◌/◌, ◌%◌}
use Rattle.hidreport_fields.specs.declared.field.usage.Usage.{Usage}

-- a usage as one number, the page above: of page 1 and id 0x30 0x00010030
abbrev pub usage_number : Usage → ℕ
usage_number u = u.usage_page * 65536 + u.usage_id

-- the usage with this number
abbrev pub numbered_usage : ℕ → Usage
numbered_usage n = record { usage_page = n / 65536; usage_id = n % 65536 }
