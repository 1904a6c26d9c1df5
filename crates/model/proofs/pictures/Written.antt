-- Writes inside live payloads leave a heap its layout: no word of the picture is there.
use Rattle.std.proofs.Common.{ℕ, ◌+◌, ◌≤◌, ◌<◌, ◌≡◌, refl, sym, subst, ◌∙◌, List, [], ◌∷◌, inl, inr, arith, length, get_or, take, get_or-take, length-take-le}
use Rattle.std.proofs.Math.Decide.{dec_lt}
use Rattle.std.proofs.Math.ListN.{get_or-eq_default}
use Rattle.words.proofs.WordLaws.{word_agree}
use Rattle.model.specs.Shape.{Shape, end_of}
use Rattle.model.specs.Parts.{end_at}
use Rattle.model.specs.Picture.{Word, Shows}
use Rattle.model.specs.Layout.{Layout, words}
use Rattle.model.specs.Sound.{Valid, Here, MayEnd, stored_end, heap_of, HereIn}
use Rattle.model.specs.Live.{◌∈◌, Payload, live}
use Rattle.model.specs.Promises.{Written}
use Rattle.model.proofs.pictures.Fronts.{own_start}
use Rattle.model.proofs.lives.Payloads.{in_area, no_word_inside}

-- a picture shows in bytes that agree where its words stand
shows_agree : (w : ℕ) (b d : List ℕ) (ws : List Word) → ((v : Word) → v ∈ ws → (i : ℕ) → v.at ≤ i → i < v.at + w → get_or d i 0 ≡ get_or b i 0) → Shows w b ws → Shows w d ws
unfolding Shows ◌∈◌
shows_agree w b d [] a h = tt
shows_agree w b d (v ∷ ws) a h = (word_agree w d b v.at (λ i l m. a v (inl refl) i l m) ∙ h.0, shows_agree w b d ws (λ u k i l m. a u (inr k) i l m) h.1)

-- bytes that differ at most inside live payloads
pub kept_here : (S : Shape) (b d : List ℕ) (L : Layout) → Here S b L → length d ≡ length b → ((i : ℕ) → ((x : Payload) → x ∈ live S L → x.address ≤ i → i < x.address + x.size → ⊥) → get_or d i 0 ≡ get_or b i 0) → Here S d L
kept_here S b d L h e w =
    record {
      magic = word_agree 8 d b 0 (λ i l m. w i (λ x k lo hi. omega (arith, (in_area S (end_of (length b)) L h.valid x k).0))) ∙ h.magic;
      valid = subst (λ (n : ℕ). Valid S (end_of n) L) (sym e) h.valid;
      shown = subst (λ (n : ℕ). Shows S.word d (words S (end_of n) L)) (sym e)
          (shows_agree S.word b d (words S (end_of (length b)) L)
          (λ v m i l u. w i (λ x k lo hi. no_word_inside S (end_of (length b)) L h.valid x k v m (omega arith) (omega arith))) h.shown);
    }

-- writes inside live payloads, and behind the end, leave a buffer its heap's layout and its end
module _ (S : Shape) (b d : List ℕ) (L : Layout) (h : HereIn S b L) (w : Written S b d) where
  abbrev Dead : ℕ → Type 0
  Dead i = (x : Payload) → x ∈ live S L → x.address ≤ i → i < x.address + x.size → ⊥

  pub written_end : stored_end S d ≡ stored_end S b
  written_end =
      word_agree S.word d b (end_at S)
      (λ i l m. w.1 L h i (omega (arith, m, own_start S b L h)) (λ x k lo hi. omega (arith, (in_area S (end_of (length (heap_of S b))) L h.here.valid x k).0)))

  written_heap : (i : ℕ) → Dead i → get_or (heap_of S d) i 0 ≡ get_or (heap_of S b) i 0
  written_heap i o = rw written_end (go (dec_lt i (stored_end S b)))
    where
      go : Dec (i < stored_end S b) → get_or (take (stored_end S b) d) i 0 ≡ get_or (take (stored_end S b) b) i 0
      go (yes l) = get_or-take (stored_end S b) d i 0 l ∙ w.1 L h i l o ∙ sym (get_or-take (stored_end S b) b i 0 l)
      go (no l) =
          let e = h.ended.1 in
          get_or-eq_default (take (stored_end S b) d) 0 {n = i} (omega (arith, l, e, w.0, length-take-le (stored_end S b) d (omega (arith, e, w.0))))
          ∙ sym (get_or-eq_default (take (stored_end S b) b) 0 {n = i} (omega (arith, l, e, length-take-le (stored_end S b) b (omega (arith, e)))))

  pub written_here : HereIn S d L
  written_here =
      let e = h.ended.1 in
      let k : length (heap_of S d) ≡ length (heap_of S b) = rw written_end (length-take-le (stored_end S b) d (omega (arith, e, w.0)) ∙ sym (length-take-le (stored_end S b) b (omega (arith, e)))) in
      record {
        ended = subst (λ (x : ℕ). MayEnd S (length d) x) (sym written_end) (subst (λ (n : ℕ). MayEnd S n (stored_end S b)) (sym w.0) h.ended);
        here = kept_here S (heap_of S b) (heap_of S d) L h.here k written_heap;
      }
