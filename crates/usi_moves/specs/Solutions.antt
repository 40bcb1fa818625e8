-- What `mate` prints of a position (own choice; the words for a move are USI's).
use Rattle.std.specs.Prelude.{◌≡◌, ℕ, zero, suc, ◌-◌, ◌*◌, ◌==◌, Bool, List, [], ◌∷◌, ◌++◌, codes, cond, decimal, flat_map, filter, length, nat_lt, Option, Some, None, Result, IfOk, Vec}
use Rattle.shogi_core.specs.Position.{Shogi}
use Rattle.shogi_moves.specs.After.{after_code}
use Rattle.mate_search.specs.Mates.{first_key, keys, line, longest_defence, shortest}
use Rattle.usi_moves.specs.Listings.{code_text}
use Rattle.usi_moves.specs.declared.solutions.MateOptions.{MateOptions}

-- a move behind a blank
abbrev pub word_of : ℕ → List ℕ
word_of code = codes " " ++ code_text code

abbrev pub move_words : List ℕ → List ℕ
move_words moves = flat_map word_of moves

-- the line if there is no mate
abbrev pub none_text : ℕ → List ℕ
none_text most = codes "no mate in " ++ (decimal (2 * most - 1) ++ codes " plies by checks\n")

-- the length of the mate in plies, then the main line if it is asked for
abbrev pub length_text : Shogi → ℕ → Bool → List ℕ
length_text p n with_line =
    codes "mate " ++ (decimal (2 * n - 1)
    ++ (cond with_line (move_words (line p n)) [] ++ codes "\n"))

-- the line of a position's keys
abbrev pub keys_line : List ℕ → List ℕ
keys_line moves = codes "keys" ++ (move_words moves ++ codes "\n")

-- the lists of the position after a move; none without a move
abbrev pub then_lists : (Shogi → List (List ℕ)) → Shogi → Option ℕ → List (List ℕ)
then_lists rest p None = []
then_lists rest p (Some code) = rest (after_code p code)

-- the keys of each of the attacker's positions on the main line
unfoldable pub key_lists : Shogi → ℕ → List (List ℕ)
key_lists p zero = []
key_lists p (suc n) =
    keys p n
    ∷ then_lists (λ q. then_lists (λ r. key_lists r n) q (longest_defence q n)) p (first_key p n)

-- the position has more than one key
abbrev pub has_several : List ℕ → Bool
has_several moves = nat_lt 1 (length moves)

abbrev pub count_several : List (List ℕ) → ℕ
count_several lists = length (filter has_several lists)

-- on success the line of the keys was appended; the result is 1 for more than one key, otherwise 0
abbrev pub AppendsNode : {A E : Type 0} → Result ℕ E → Vec ℕ A → Vec ℕ A → List ℕ → Type 0
AppendsNode result before after moves =
    IfOk result (λ several. (after.items ≡ before.items ++ keys_line moves)
    × (several ≡ cond (has_several moves) 1 0))

-- on success the lines of the keys were appended; the result is the number of positions with more than one key
abbrev pub AppendsLists : {A E : Type 0} → Result ℕ E → Vec ℕ A → Vec ℕ A → List (List ℕ) → Type 0
AppendsLists result before after lists =
    IfOk result (λ several. (after.items ≡ before.items ++ flat_map keys_line lists)
    × (several ≡ count_several lists))

-- the number of the attacker's positions with more than one key, as text
abbrev pub verdict_text : ℕ → List ℕ
verdict_text several =
    cond (several == 0) (codes "unique\n")
    (cond (several == 1) (codes "1 node with more than one key\n")
    (decimal several ++ codes " nodes with more than one key\n"))

-- the keys along the main line, and the verdict
abbrev pub keys_text : List (List ℕ) → List ℕ
keys_text lists = flat_map keys_line lists ++ verdict_text (count_several lists)

-- the shortest mate found, or none
abbrev pub found_text : Shogi → MateOptions → Option ℕ → List ℕ
found_text p options None = none_text options.most
found_text p options (Some n) =
    length_text p n options.line ++ cond options.keys (keys_text (key_lists p n)) []

-- `mate`: the shortest mate by checks, or the line that there is none
abbrev pub mate_text : Shogi → MateOptions → List ℕ
mate_text p options = found_text p options (shortest p options.most)
