-- A word by its bytes: what stands at its place, and the list that is left when it is written.
use Rattle.std.proofs.Common.{ℕ, zero, suc, ◌≡◌, refl, sym, ◌∙◌, ◌+◌, ◌/◌, ◌%◌, ◌≤◌, List, [], ◌∷◌, ◌++◌, length, take, drop, set, arith}
use Rattle.std.proofs.lemmas.List.{append_assoc, take-append-drop, take_more_set, drop-set-lt, length-set}
use Rattle.words.specs.Word.{put}

-- the bytes of a word of w bytes, the least first
unfoldable pub bytes_of : ℕ → ℕ → List ℕ
bytes_of zero v = []
bytes_of (suc w) v = v % 256 ∷ bytes_of w (v / 256)

pub put_bytes : (w : ℕ) (b : List ℕ) (p v : ℕ) → p + w ≤ length b → put w b p v ≡ take p b ++ (bytes_of w v ++ drop (p + w) b)
unfolding put bytes_of
put_bytes zero b p v h = let z : p + 0 ≡ p = omega arith in rw z (sym (take-append-drop p b))
put_bytes (suc w) b p v h =
    let first : take (p + 1) (set b p (v % 256)) ≡ take p b ++ (v % 256 ∷ []) = take_more_set b p (v % 256) (omega arith) in
    let rest : drop (p + 1 + w) (set b p (v % 256)) ≡ drop (p + 1 + w) b = drop-set-lt (p + 1 + w) b p (v % 256) (omega arith) in
    put_bytes w (set b p (v % 256)) (p + 1) (v / 256) (simp length-set (omega arith))
    ∙ (let e : p + suc w ≡ p + 1 + w = omega arith in rw (e, first, rest, append_assoc) refl)

-- the four of a word of 4 bytes, and the eight of one of 8
pub four_bytes : (v : ℕ) → v % 4294967296 % 256 ∷ v % 4294967296 / 256 % 256 ∷ v % 4294967296 / 65536 % 256 ∷ v % 4294967296 / 16777216 % 256 ∷ [] ≡ bytes_of 4 v
unfolding bytes_of
four_bytes v =
    let a : v % 4294967296 % 256 ≡ v % 256 = omega arith in
    let b : v % 4294967296 / 256 % 256 ≡ v / 256 % 256 = omega arith in
    let c : v % 4294967296 / 65536 % 256 ≡ v / 256 / 256 % 256 = omega arith in
    let d : v % 4294967296 / 16777216 % 256 ≡ v / 256 / 256 / 256 % 256 = omega arith in
    rw (a, b, c, d) refl

pub eight_bytes : (v : ℕ) → v % 256 ∷ v / 256 % 256 ∷ v / 65536 % 256 ∷ v / 16777216 % 256 ∷ v / 4294967296 % 256 ∷ v / 1099511627776 % 256 ∷ v / 281474976710656 % 256 ∷ v / 72057594037927936 % 256 ∷ [] ≡ bytes_of 8 v
unfolding bytes_of
eight_bytes v =
    let c : v / 65536 ≡ v / 256 / 256 = omega arith in
    let d : v / 16777216 ≡ v / 256 / 256 / 256 = omega arith in
    let e : v / 4294967296 ≡ v / 256 / 256 / 256 / 256 = omega arith in
    let f : v / 1099511627776 ≡ v / 256 / 256 / 256 / 256 / 256 = omega arith in
    let g : v / 281474976710656 ≡ v / 256 / 256 / 256 / 256 / 256 / 256 = omega arith in
    let h : v / 72057594037927936 ≡ v / 256 / 256 / 256 / 256 / 256 / 256 / 256 = omega arith in
    rw (c, d, e, f, g, h) refl
