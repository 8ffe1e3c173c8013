-- The flags of data items as words (HID 1.11, Section 6.2.2.5), in the order of their bits.
use Rattle.std.specs.Prelude.{ℕ, if◌then◌else◌, List, ◌++◌, codes}
use Rattle.hidreport_items.specs.Flags.{Flags}

-- the words: of Variable and Relative `Data,Var,Rel,NoNull`
abbrev pub flag_text : Flags → List ℕ
flag_text f =
    (if f.constant then codes "Const" else codes "Data")
    ++ ((if f.variable then codes ",Var" else codes ",Arr")
    ++ ((if f.relative then codes ",Rel" else codes ",Abs")
    ++ ((if f.wrap then codes ",Wrap" else codes "")
    ++ ((if f.nonlinear then codes ",NonLin" else codes "")
    ++ ((if f.no_preferred_state then codes ",NoPref" else codes "")
    ++ ((if f.null_state then codes ",Null" else codes ",NoNull")
    ++ ((if f.volatile then codes ",Vol" else codes "")
    ++ (if f.buffered_bytes then codes ",Buf" else codes ""))))))))
