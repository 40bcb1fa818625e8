-- A read gives a prefix of the bytes kept.
use Rattle.std.proofs.Common.{◌≡◌, ◌≢◌, ℕ, ◌+◌, ◌-◌, ◌≤◌, List, ◌++◌, length, take, drop, false, sym, ap, ◌∙◌, append_assoc, arith}
use Rattle.std.specs.Prelude.{◌==◌, cond, min}
use borrow.Author.Tests.{ne_eqb}
use Rattle.std.proofs.lemmas.List.{drop-drop, drop-take, length-append, length-drop, length-take-le, take-append-drop, take-append-le, take-take, take_min}
use Rattle.stream_transport.specs.ReadBuffer.{between}

length_between : (start end : ℕ) (items : List ℕ) → end ≤ length items → length (between start end items) ≡ end - start
length_between start end items le = length-drop start (take end items) ∙ ap (λ (k : ℕ). k - start) (length-take-le end items le)

between_is : (start end : ℕ) (items : List ℕ) → start ≤ end → between start end items ≡ take (end - start) (drop start items)
between_is start end items le = ap (λ (k : ℕ). drop start (take k items)) (let e : end ≡ start + (end - start) = omega arith in e) ∙ drop-take start (end - start) items

-- the first bytes between two indices, and the others
front : (start end n : ℕ) (items : List ℕ) → start + n ≤ end → between start (start + n) items ≡ take n (between start end items)
front start end n items le =
    drop-take start n items
    ∙ (sym (take-take n (end - start) (drop start items) (omega arith))
    ∙ ap (λ xs. take n xs) (sym (between_is start end items (omega arith))))

back : (start end n : ℕ) (items : List ℕ) → between (start + n) end items ≡ drop n (between start end items)
back start end n items = ap (λ (k : ℕ). drop k (take end items)) (omega arith) ∙ sym (drop-drop n start (take end items))

pub front_and_back : (start end n : ℕ) (items : List ℕ) → start + n ≤ end → between start (start + n) items ++ between (start + n) end items ≡ between start end items
front_and_back start end n items le =
    ap (λ xs. xs ++ between (start + n) end items) (front start end n items le)
    ∙ (ap (λ xs. take n (between start end items) ++ xs) (back start end n items) ∙ take-append-drop n (between start end items))

-- the bytes given of the first line are among those kept
pub line_fits : (start end n most : ℕ) (items line rest : List ℕ) → start ≤ end → end ≤ length items → between start end items ≡ line ++ rest → n ≡ min (length line) most → start + n ≤ end
line_fits start end n most items line rest le within split e =
    let all : length (between start end items) ≡ end - start = length_between start end items within in
    let sum : length (between start end items) ≡ length line + length rest = ap length split ∙ length-append line rest in
    omega arith

-- the first line, or as many bytes of it as asked for
pub front_line : (start end n most : ℕ) (items line rest : List ℕ) → start + n ≤ end → between start end items ≡ line ++ rest → n ≡ min (length line) most → between start (start + n) items ≡ take most line
front_line start end n most items line rest le split e =
    front start end n items le
    ∙ (ap (λ xs. take n xs) split
    ∙ (take-append-le n line rest (omega arith)
    ∙ (ap (λ (k : ℕ). take k line) (let m : n ≡ min most (length line) = omega arith in m) ∙ take_min most line)))

-- while bytes stay kept, those given lie in the same buffer
pub with_rest : (spare : List ℕ) (start end n : ℕ) (items : List ℕ) → end ≤ length items → start + n ≤ end → start + n ≢ end → cond (length (between (start + n) end items) == 0) spare (between start (start + n) items) ≡ between start (start + n) items
with_rest spare start end n items most le apart =
    let len : length (between (start + n) end items) ≡ end - (start + n) = length_between (start + n) end items most in
    let some : (length (between (start + n) end items) == 0) ≡ false = ne_eqb (length (between (start + n) end items)) 0 (λ none. (let same : start + n ≡ end = omega arith in apart same)) in
    ap (λ b. cond b spare (between start (start + n) items)) some

-- the bytes read stand at the start of the room
pub filled : (n len : ℕ) (buf rest back : List ℕ) → n ≤ length buf → n ≤ len → take n (take len ((buf ++ rest) ++ back)) ≡ take n buf
filled n len buf rest back within fits =
    take-take n len ((buf ++ rest) ++ back) fits
    ∙ (ap (λ xs. take n xs) (append_assoc buf rest back) ∙ take-append-le n buf (rest ++ back) within)
