-- The sample of a seed and a number of items: the bytes that are generated from them.
use Rattle.std.specs.Prelude.{ℕ, zero, suc, ◌+◌, ◌*◌, ◌/◌, ◌%◌, ◌^◌, ◌==◌, List, ◌++◌, if◌then◌else◌, codes, flat_map}
use Rattle.std.specs.Fmt.{decimal}
use Rattle.std.specs.List.{range_with_len}
use Rattle.lay_sample.specs.declared.items.Item.{Item}
use Rattle.lay_sample.specs.declared.items.Item.TheVariants.{Struct, Use, Function, Constant}

-- the state after a draw, by the linear congruential generator of Knuth's MMIX
abbrev pub next_state : ℕ → ℕ
next_state state = (state * 6364136223846793005 + 1442695040888963407) % 2 ^ 64

-- the result of a draw of n: the upper bits of the next state, modulo n
abbrev pub draw : ℕ → ℕ → ℕ
draw n state = next_state state / 2 ^ 33 % n

-- The item of this kind. Its number is drawn, if the kind has one.
abbrev pub item_of : ℕ → ℕ → Item
item_of kind state =
    if kind == 0 then Struct else
    (if kind == 1 then Use (draw 1000 state) else
    (if kind == 2 then Function (draw 1000 state) else
    Constant (draw 100 state)))

-- The item that is drawn at a state. A draw of 4 gives its kind, and the next draw its number.
abbrev pub item_at : ℕ → Item
item_at state = item_of (draw 4 state) (next_state state)

-- The state after the item that is drawn at a state. A struct takes one draw, and every other item
-- two.
abbrev pub state_behind : ℕ → ℕ
state_behind state = if draw 4 state == 0 then next_state state else next_state (next_state state)

-- the state before the draws of item i
abbrev pub state_before : ℕ → ℕ → ℕ
state_before seed zero = seed
state_before seed (suc i) = state_behind (state_before seed i)

-- the line of item i
abbrev pub line_of : ℕ → Item → List ℕ
line_of i Struct = codes "struct S" ++ decimal i ++ codes "{a:u8,b:Vec<u8>}\n"
line_of i (Use v) = codes "use m" ++ decimal v ++ codes "::{a,b,c};\n"
line_of i (Function v) =
    codes "fn f" ++ decimal i ++ codes "(x:u8)->u8{match x{0=>{g(x)}_=>x+" ++ decimal v ++ codes ",}}\n"
line_of i (Constant v) = codes "const C" ++ decimal i ++ codes ":[u8;3]=[1,2," ++ decimal v ++ codes "];\n"

-- The sample of a seed: the lines of this many items in order, numbered from 0.
abbrev pub sample_text : ℕ → ℕ → List ℕ
sample_text seed items = flat_map (λ i. line_of i (item_at (state_before seed i))) (range_with_len 0 items)
