-- The setups that options name.
use Rattle.std.proofs.Common.{◌≡◌, ◌∙◌, ◌≤◌, ℕ, List, Option, Some, None, IfNone, codes, refl, sym, ap, arith, inl, inr, min}
use Rattle.clap.specs.Words.{Row, Text, first_of}
use Rattle.usi_arguments.specs.Answers.{NamesHost}
use Rattle.usi_arguments.specs.CommandLine.{HasNoNumber, IsFromOne, NamesNumber}
use Rattle.usi_arguments.specs.Setup.{HasDepth, HasNoDepth, HasNoEvaluation, HasNoSetup, NamesDepth, NamesSetup}
use Rattle.usi_arguments.specs.declared.host.HostOptions.{HostOptions}
use Rattle.usi_arguments.specs.declared.setup.Evaluation.{Evaluation}
use Rattle.usi_arguments.specs.declared.setup.SetupOptions.{SetupOptions}
use Rattle.usi_arguments.proofs.Numbers.{names_once}

-- the options name one depth, one setup and one host only
depth_once : (options : List Row) (most m n : ℕ) → NamesDepth options most m → NamesDepth options most n → m ≡ n
depth_once options most m n (inl a) (inl b) = names_once (codes "depth") options m n a b
depth_once options most m n (inl a) (inr b) = let is = a.1 in let none = b.0 in cc
depth_once options most m n (inr a) (inl b) = let is = b.1 in let none = a.0 in cc
depth_once options most m n (inr a) (inr b) = a.1 ∙ sym b.1

some_once : (a b : Evaluation) → Some a ≡ Some b → a ≡ b
some_once a b same = cc

pub setup_once : (options : List Row) (a b : SetupOptions) → NamesSetup options a → NamesSetup options b → a ≡ b
setup_once options a b first second =
    let most : a.max_depth ≡ b.max_depth = names_once (codes "max-depth") options a.max_depth b.max_depth first.1 second.1 in
    let depth : a.depth ≡ b.depth = depth_once options b.max_depth a.depth b.depth (rw most at first.0) second.0 in
    let lines : a.lines ≡ b.lines = names_once (codes "lines") options a.lines b.lines first.2 second.2 in
    let evaluation : Some a.evaluation ≡ Some b.evaluation = sym first.3 ∙ second.3 in
    λ k. record {
      depth = depth k;
      max_depth = most k;
      lines = lines k;
      evaluation = some_once a.evaluation b.evaluation evaluation k;
    }

pub host_once : (options : List Row) (a b : HostOptions) → NamesHost options a → NamesHost options b → a ≡ b
host_once options a b first second =
    let slots : a.slots ≡ b.slots = names_once (codes "slots") options a.slots b.slots first.0 second.0 in
    let entries : a.entries ≡ b.entries = names_once (codes "entries") options a.entries b.entries first.1 second.1 in
    let slice : a.slice ≡ b.slice = names_once (codes "slice") options a.slice b.slice first.2 second.2 in
    let setup : a.setup ≡ b.setup = setup_once options a.setup b.setup first.3 second.3 in
    λ k. record {
      slots = slots k;
      entries = entries k;
      slice = slice k;
      setup = setup k;
    }

-- options of which one has no value for a setup
pub no_max_depth : (options : List Row) → HasNoNumber (codes "max-depth") 16 options → HasNoSetup options
no_max_depth options none setup range is = none setup.max_depth range.1 is.1

pub no_depth : (options : List Row) (most : ℕ) → NamesNumber (codes "max-depth") options most → HasNoDepth options most → HasNoSetup options
no_depth options most max_is none setup range is =
    let same : setup.max_depth ≡ most = names_once (codes "max-depth") options setup.max_depth most is.1 max_is in
    none setup.depth range.0 (rw same at is.0)

pub no_lines : (options : List Row) → HasNoNumber (codes "lines") 8 options → HasNoSetup options
no_lines options none setup range is = none setup.lines range.2 is.2

-- an option `--depth` without a number in the range names no depth
no_named_depth : (options : List Row) (most : ℕ) (text : Text) → first_of (codes "depth") options ≡ Some text → HasNoNumber (codes "depth") 16 options → HasNoDepth options most
no_named_depth options most text is none depth range (inl named) = none depth range named
no_named_depth options most text is none depth range (inr left_out) = let out = left_out.0 in cc

pub no_named_depths : (options : List Row) (most : ℕ) (text : Text) (r : Option ℕ) → first_of (codes "depth") options ≡ Some text
    → IfNone r (HasNoNumber (codes "depth") 16 options) → IfNone r (HasNoDepth options most)
no_named_depths options most text (Some n) is none = tt
no_named_depths options most text None is none = no_named_depth options most text is none

-- a depth that is left out is 3 or less
pub left_out_depth : (options : List Row) (most depth : ℕ) → IsFromOne 16 most → first_of (codes "depth") options ≡ None → depth ≡ min 3 most → HasDepth options most depth
left_out_depth options most depth range none is =
    let least : 1 ≤ most = range.0 in
    ((omega arith, omega arith), inr (none, is))

pub no_evaluation : (options : List Row) → HasNoEvaluation options → HasNoSetup options
no_evaluation options none setup range is = let named = is.3 in cc
