-- Texts and their outputs. Assumes nothing.
use Rattle.std.specs.Prelude.{ℕ, List, [], ◌∷◌, ◌++◌}
use Rattle.record.specs.Characters.{line_feed}
use Rattle.text_form.specs.Rows.{heading}

-- step object key value receiver descriptor sheet
abbrev pub names_line : List ℕ
names_line =
    115 ∷ 116 ∷ 101 ∷ 112 ∷ 32 ∷ 111 ∷ 98 ∷ 106 ∷ 101 ∷ 99 ∷ 116 ∷ 32 ∷ 107 ∷ 101 ∷ 121 ∷ 32 ∷ 118 ∷ 97 ∷ 108 ∷ 117 ∷ 101
    ∷ 32 ∷ 114 ∷ 101 ∷ 99 ∷ 101 ∷ 105 ∷ 118 ∷ 101 ∷ 114 ∷ 32 ∷ 100 ∷ 101 ∷ 115 ∷ 99 ∷ 114 ∷ 105 ∷ 112 ∷ 116 ∷ 111 ∷ 114 ∷ 32
    ∷ 115 ∷ 104 ∷ 101 ∷ 101 ∷ 116 ∷ []

-- 01 00 - 010000000000000000 - - -
abbrev pub made_line : List ℕ
made_line =
    48 ∷ 49 ∷ 32 ∷ 48 ∷ 48 ∷ 32 ∷ 45 ∷ 32 ∷ 48 ∷ 49 ∷ 48 ∷ 48 ∷ 48 ∷ 48 ∷ 48 ∷ 48 ∷ 48 ∷ 48 ∷ 48 ∷ 48 ∷ 48 ∷ 48 ∷ 48 ∷ 48
    ∷ 48 ∷ 48 ∷ 32 ∷ 45 ∷ 32 ∷ 45 ∷ 32 ∷ 45 ∷ []

-- 00 - - - - - 0
abbrev pub odd_line : List ℕ
odd_line =
    48 ∷ 48 ∷ 32 ∷ 45 ∷ 32 ∷ 45 ∷ 32 ∷ 45 ∷ 32 ∷ 45 ∷ 32 ∷ 45 ∷ 32 ∷ 48 ∷ []

-- 00 - - - - - -
abbrev pub code_line : List ℕ
code_line =
    48 ∷ 48 ∷ 32 ∷ 45 ∷ 32 ∷ 45 ∷ 32 ∷ 45 ∷ 32 ∷ 45 ∷ 32 ∷ 45 ∷ 32 ∷ 45 ∷ []

-- 1 0 0 0 070000000000000000
abbrev pub made_row : List ℕ
made_row =
    32 ∷ 49 ∷ 32 ∷ 48 ∷ 32 ∷ 48 ∷ 32 ∷ 48 ∷ 32 ∷ 48 ∷ 55 ∷ 48 ∷ 48 ∷ 48 ∷ 48 ∷ 48 ∷ 48 ∷ 48 ∷ 48 ∷ 48 ∷ 48 ∷ 48 ∷ 48 ∷ 48
    ∷ 48 ∷ 48 ∷ 48 ∷ []

-- 0 12 0 0 -
abbrev pub broken_row : List ℕ
broken_row =
    32 ∷ 48 ∷ 32 ∷ 49 ∷ 50 ∷ 32 ∷ 48 ∷ 32 ∷ 48 ∷ 32 ∷ 45 ∷ []

-- 0 1 0 0 -
abbrev pub code_row : List ℕ
code_row =
    32 ∷ 48 ∷ 32 ∷ 49 ∷ 32 ∷ 48 ∷ 32 ∷ 48 ∷ 32 ∷ 45 ∷ []

-- sheet descriptor receiver value key object step
abbrev pub other_names : List ℕ
other_names =
    115 ∷ 104 ∷ 101 ∷ 101 ∷ 116 ∷ 32 ∷ 100 ∷ 101 ∷ 115 ∷ 99 ∷ 114 ∷ 105 ∷ 112 ∷ 116 ∷ 111 ∷ 114 ∷ 32 ∷ 114 ∷ 101 ∷ 99 ∷ 101
    ∷ 105 ∷ 118 ∷ 101 ∷ 114 ∷ 32 ∷ 118 ∷ 97 ∷ 108 ∷ 117 ∷ 101 ∷ 32 ∷ 107 ∷ 101 ∷ 121 ∷ 32 ∷ 111 ∷ 98 ∷ 106 ∷ 101 ∷ 99 ∷ 116
    ∷ 32 ∷ 115 ∷ 116 ∷ 101 ∷ 112 ∷ []

-- 0061 - - - - - 0f
abbrev pub letter_line : List ℕ
letter_line =
    48 ∷ 48 ∷ 54 ∷ 49 ∷ 32 ∷ 45 ∷ 32 ∷ 45 ∷ 32 ∷ 45 ∷ 32 ∷ 45 ∷ 32 ∷ 45 ∷ 32 ∷ 48 ∷ 102 ∷ []

-- - - - - - - 0f
abbrev pub empty_line : List ℕ
empty_line =
    45 ∷ 32 ∷ 45 ∷ 32 ∷ 45 ∷ 32 ∷ 45 ∷ 32 ∷ 45 ∷ 32 ∷ 45 ∷ 32 ∷ 48 ∷ 102 ∷ []

-- 61 - - - - - 0f
abbrev pub half_line : List ℕ
half_line =
    54 ∷ 49 ∷ 32 ∷ 45 ∷ 32 ∷ 45 ∷ 32 ∷ 45 ∷ 32 ∷ 45 ∷ 32 ∷ 45 ∷ 32 ∷ 48 ∷ 102 ∷ []

-- 0061 - - - - 01 0f
abbrev pub used_line : List ℕ
used_line =
    48 ∷ 48 ∷ 54 ∷ 49 ∷ 32 ∷ 45 ∷ 32 ∷ 45 ∷ 32 ∷ 45 ∷ 32 ∷ 45 ∷ 32 ∷ 48 ∷ 49 ∷ 32 ∷ 48 ∷ 102 ∷ []

-- - - - 010000000000000000 - 00 01
abbrev pub other_made : List ℕ
other_made =
    45 ∷ 32 ∷ 45 ∷ 32 ∷ 45 ∷ 32 ∷ 48 ∷ 49 ∷ 48 ∷ 48 ∷ 48 ∷ 48 ∷ 48 ∷ 48 ∷ 48 ∷ 48 ∷ 48 ∷ 48 ∷ 48 ∷ 48 ∷ 48 ∷ 48 ∷ 48 ∷ 48
    ∷ 32 ∷ 45 ∷ 32 ∷ 48 ∷ 48 ∷ 32 ∷ 48 ∷ 49 ∷ []

-- 1 0 0 0 050000000000000000
abbrev pub first_string : List ℕ
first_string =
    32 ∷ 49 ∷ 32 ∷ 48 ∷ 32 ∷ 48 ∷ 32 ∷ 48 ∷ 32 ∷ 48 ∷ 53 ∷ 48 ∷ 48 ∷ 48 ∷ 48 ∷ 48 ∷ 48 ∷ 48 ∷ 48 ∷ 48 ∷ 48 ∷ 48 ∷ 48 ∷ 48
    ∷ 48 ∷ 48 ∷ 48 ∷ []

-- 1 0 0 0 050100000000000000
abbrev pub second_string : List ℕ
second_string =
    32 ∷ 49 ∷ 32 ∷ 48 ∷ 32 ∷ 48 ∷ 32 ∷ 48 ∷ 32 ∷ 48 ∷ 53 ∷ 48 ∷ 49 ∷ 48 ∷ 48 ∷ 48 ∷ 48 ∷ 48 ∷ 48 ∷ 48 ∷ 48 ∷ 48 ∷ 48 ∷ 48
    ∷ 48 ∷ 48 ∷ 48 ∷ []

abbrev pub ended : List (List ℕ) → List ℕ
ended [] = []
ended (line ∷ lines) = line ++ (line_feed ∷ ended lines)

pub record Example : Type 0 where
  pub input : List ℕ
  pub output : List ℕ

abbrev pub gives : List ℕ → List ℕ → Example
gives input output = record { input = input; output = output }

-- 48 to 54 are the digits 0 to 6
abbrev pub examples : List Example
examples =
    -- an object is made; the last line has no line feed
    gives (names_line ++ (line_feed ∷ made_line)) (heading ++ ended ((49 ∷ made_row) ∷ []))
    -- an empty line, and a digit alone under a code that is none: 12 comes before 1
    ∷ gives (ended (names_line ∷ [] ∷ odd_line ∷ code_line ∷ made_line ∷ [])) (heading ++ ended ((49 ∷ broken_row) ∷ (50 ∷ broken_row) ∷ (51 ∷ code_row) ∷ (52 ∷ made_row) ∷ []))
    -- other columns: a string once and again, the empty string, half a code unit, a cell that no string has, an object
    ∷ gives (ended (other_names ∷ letter_line ∷ letter_line ∷ empty_line ∷ half_line ∷ used_line ∷ other_made ∷ []))
    (heading ++ ended ((49 ∷ first_string) ∷ (50 ∷ first_string) ∷ (51 ∷ second_string) ∷ (52 ∷ broken_row) ∷ (53 ∷ code_row) ∷ (54 ∷ made_row) ∷ []))
    -- an eighth cell
    ∷ gives (names_line ++ (32 ∷ 45 ∷ [])) (heading ++ ended ((48 ∷ broken_row) ∷ []))
    -- no names: nothing is read behind them
    ∷ gives (ended (made_line ∷ made_line ∷ [])) (heading ++ ended ((48 ∷ broken_row) ∷ []))
    ∷ gives [] (heading ++ ended ((48 ∷ broken_row) ∷ []))
    ∷ []
