-- The descriptor of a mouse with five buttons, a wheel and feature reports.
use Rattle.std.specs.Prelude.{ℕ, ◌*◌, List, ◌++◌, take, drop, codes}

abbrev pub mouse : List ℕ
mouse =
    codes "05 01 09 02 a1 01 05 01 09 02 a1 02 85 1a 09 01 a1 00 "
    ++ codes "05 09 19 01 29 05 95 05 75 01 15 00 25 01 81 02 "
    ++ codes "75 03 95 01 81 01 "
    ++ codes "05 01 09 30 09 31 95 02 75 10 16 01 80 26 ff 7f 81 06 "
    ++ codes "a1 02 85 12 09 48 95 01 75 02 15 00 25 01 35 01 45 0c b1 02 "
    ++ codes "85 1a 09 38 35 00 45 00 95 01 75 10 16 01 80 26 ff 7f 81 06 c0 "
    ++ codes "a1 02 85 12 09 48 75 02 15 00 25 01 35 01 45 0c b1 02 "
    ++ codes "35 00 45 00 75 04 b1 01 "
    ++ codes "85 1a 05 0c 95 01 75 10 16 01 80 26 ff 7f 0a 38 02 81 06 "
    ++ codes "c0 c0 c0 c0 "
    ++ codes "05 0c 09 01 a1 01 05 01 09 02 a1 02 85 1f "
    ++ codes "05 0c 0a 38 02 95 01 75 10 16 01 80 26 ff 7f 81 06 "
    ++ codes "85 17 06 00 ff 0a 06 ff 0a 0f ff 15 00 25 01 35 01 45 0c "
    ++ codes "95 02 75 02 b1 02 "
    ++ codes "0a 04 ff 35 00 45 00 95 01 75 01 b1 02 "
    ++ codes "75 03 b1 01 c0 c0"

-- the same with a segment between Push and Pop, with a size and a usage of its own, put before the
-- byte at a place
abbrev pub mouse_with_segment : ℕ → List ℕ
mouse_with_segment place = take (3 * place) mouse ++ codes "a4 75 10 09 99 b4 " ++ drop (3 * place)
    mouse
