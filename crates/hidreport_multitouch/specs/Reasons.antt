-- Why a usage of a device that a driver takes has no event, in words.
use Rattle.std.specs.Prelude.{ℕ, List, codes}
use Rattle.hidreport_linux.specs.Reasons.{reason_of}
use Rattle.hidreport_multitouch.specs.declared.silent.Silent.{Silent}
use Rattle.hidreport_multitouch.specs.declared.silent.Silent.TheVariants as silent

abbrev pub silence_of : Silent → List ℕ
silence_of (silent.Unmapped reason) = reason_of reason
silence_of silent.Application = codes "in an application that hid-multitouch ignores"
silence_of silent.Ignored = codes "a usage that hid-multitouch ignores"
silence_of silent.Read = codes "hid-multitouch only reads it for the contacts"
silence_of silent.Unregistered = codes "left to hid-input, whose code hid-multitouch leaves out"
