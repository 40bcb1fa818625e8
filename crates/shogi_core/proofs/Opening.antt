-- The opening position has no fault.
use Rattle.std.proofs.Common.{◌≡◌, ℕ, zero, suc, ◌+◌, ◌*◌, refl, None, get_or, set}
use Rattle.std.specs.Prelude.{replicate}
use Rattle.shogi_core.specs.declared.start.TheConstants.{BACK_RANK, START_BLACK, START_WHITE, START_KINGS, START_SLIDERS, START_WORDS}
use Rattle.shogi_core.specs.declared.piece.Color.TheVariants.{Black, White}
use Rattle.shogi_core.specs.Below.{some_below, all_below}
use Rattle.shogi_core.specs.declared.piece.Role.{Role}
use Rattle.shogi_core.specs.declared.piece.Role.TheVariants.{Bishop, King, Pawn, Rook}
use Rattle.shogi_core.specs.Movement.{Cells, reaches, away}
use Rattle.shogi_core.specs.Attack.{in_check}
use Rattle.shogi_core.specs.Validity.{fault_of}
use Rattle.shogi_core.specs.Bits.{mask_below}
use Rattle.shogi_core.specs.Masks.{places_of, own_of, kings_of, sliders_of}
use Rattle.shogi_core.specs.Start.{cell_with, start, start_cells}
use Rattle.shogi_core.specs.Words.{board_words, number_in_base_32}

pub start_fine : fault_of start ≡ None
unfolding fault_of some_below all_below reaches away in_check
start_fine = refl

-- the opening masks are right
pub start_black : START_BLACK ≡ own_of start_cells Black
unfolding places_of mask_below
start_black = refl

pub start_white : START_WHITE ≡ own_of start_cells White
unfolding places_of mask_below
start_white = refl

pub start_kings : START_KINGS ≡ kings_of start_cells
unfolding places_of mask_below
start_kings = refl

pub start_sliders : START_SLIDERS ≡ sliders_of start_cells
unfolding places_of mask_below
start_sliders = refl

-- the opening words are right
pub start_words : START_WORDS ≡ board_words start_cells
unfolding number_in_base_32
start_words = refl

-- the cells after one file is filled
abbrev pub with_file : Cells → ℕ → Cells
with_file cells file =
    let role : Role = get_or BACK_RANK file King in
    let one : Cells = set cells (9 * file) (cell_with White role) in
    let two : Cells = set one (9 * file + 2) (cell_with White Pawn) in
    let three : Cells = set two (9 * file + 6) (cell_with Black Pawn) in
    set three (9 * file + 8) (cell_with Black role)

-- the cells after the first files are filled
unfoldable pub files_set : ℕ → Cells
files_set zero = replicate 81 None
files_set (suc file) = with_file (files_set file) file

pub opening_cells : set (set (set (set (files_set 9) 10 (cell_with White Bishop)) 16 (cell_with Black Rook)) 64 (cell_with White Rook)) 70 (cell_with Black Bishop) ≡ start_cells
unfolding files_set
opening_cells = refl
