use Rattle.std.proofs.Common.{◌≡◌, true, take, min}
use Rattle.std.specs.List.{list_all}
use Rattle.std.specs.Char.{is_ascii_digit}
use Rattle.shogi_sfen.specs.Numbers.{number_written}
use Rattle.shogi_sfen.proofs.number.read_number.Given as goal

-- the number so far is that of the digits so far
abbrev pub invariant-loop-byte : goal.invariant-loop-byte
invariant-loop-byte l = record {
  value : l.number ≡ min l.most (number_written (take l.byte-index l.word));
  digits : list_all is_ascii_digit (take l.byte-index l.word) ≡ true;
}
