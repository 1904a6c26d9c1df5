-- A fresh heap's words: the heads of the index page, cleared one after the other, and the picture in three parts.
use Rattle.std.proofs.Common.{ℕ, suc, ◌+◌, ◌-◌, ◌*◌, ◌≤◌, ◌<◌, ◌≡◌, refl, ap, ◌∙◌, List, [], ◌∷◌, ◌++◌, append_assoc, arith, length, replicate}
use Rattle.words.specs.Width.{Width}
use Rattle.words.specs.Word.{put}
use Rattle.words.proofs.WordLaws.{length_put}
use Rattle.model.specs.Shape.{shape, end_of, index, start, shortest}
use Rattle.model.specs.Parts.{head_at, index_tag, index_far_tag_at}
use Rattle.model.specs.Picture.{Word, draw}
use Rattle.model.specs.Layout.{free, head_of, size_of, first_free, own, block_words, head_words, fixed_low, fixed_high, words}
use Rattle.model.specs.Rules.{fresh}
use Rattle.model.specs.Calls.{drawn}
use Rattle.model.proofs.Sizes.{start_eight, heads_room}
use Rattle.model.proofs.pictures.Pictures.{draw_append}
use Rattle.links.specs.Links.{free_words}
use Rattle.fresh.specs.Fresh.{before_heads, after_heads}

-- n empty lists' heads from class c on
abbrev heads : ℕ → ℕ → ℕ → List Word
heads w c n = head_words (shape w) (head_at (shape w) c) (replicate n [])

-- all heads
abbrev all_heads : ℕ → List Word
all_heads w = head_words (shape w) (index (shape w)) (replicate (shape w).classes [])

-- the heads below c are written: what is left to draw leads to the same bytes as all of them from the start
pub record Clearing (w : ℕ) (h₀ h : List ℕ) (c : ℕ) : Type 0 where
  pub few : c ≤ (shape w).classes
  pub within : w * c ≤ w * (4 * w)
  pub room : shortest (shape w) ≤ length h₀
  pub same : length h ≡ length h₀
  pub rest : draw w (heads w c ((shape w).classes - c)) h ≡ draw w (all_heads w) h₀

pub clear_start : {w : ℕ} → (h : List ℕ) → shortest (shape w) ≤ length h → Clearing w h h 0
clear_start {w} h r = record { few = omega arith; within = omega arith; room = r; same = refl; rest = let e : 4 * w - 0 ≡ 4 * w = omega arith in let z : index (shape w) + w * 0 ≡ index (shape w) = omega arith in rw (e, z) refl }

module _ {w : ℕ} {h₀ h : List ℕ} {c : ℕ} (i : Clearing w h₀ h c) where
  pub clear_turn : c < (shape w).classes → (h' : List ℕ) → h' ≡ put w h (head_at (shape w) c) 0 → Clearing w h₀ h' (c + 1)
  unfolding draw head_words head_of
  clear_turn l h' e =
      record {
        few = omega arith;
        within = heads_room w (c + 1) (omega arith);
        room = i.room;
        same = ap length e ∙ length_put w h (head_at (shape w) c) 0 ∙ i.same;
        rest = go (4 * w - c - 1) (omega arith) (omega arith);
      }
    where
      go : (k : ℕ) → 4 * w - c ≡ suc k → 4 * w - (c + 1) ≡ k → draw w (heads w (c + 1) (4 * w - (c + 1))) h' ≡ draw w (all_heads w) h₀
      go k f g =
          let s : index (shape w) + w * (c + 1) ≡ index (shape w) + w * c + w = omega arith in
          let r : draw w (head_words (shape w) (head_at (shape w) c) (replicate (suc k) [])) h ≡ draw w (all_heads w) h₀ = rw f at i.rest in
          rw (g, e) (ap (λ (p : ℕ). draw w (head_words (shape w) p (replicate k [])) (put w h (head_at (shape w) c) 0)) s ∙ r)

  pub clear_done : (shape w).classes ≤ c → h ≡ draw w (all_heads w) h₀
  unfolding draw head_words
  clear_done l =
      let f : 4 * w - c ≡ 0 = omega (arith, i.few) in
      let r : draw w (head_words (shape w) (head_at (shape w) c) (replicate 0 [])) h ≡ draw w (all_heads w) h₀ = rw f at i.rest in
      r

-- the picture of a fresh layout, in the order in which it is written
fresh_words : {w : ℕ} → Width w → (end : ℕ) → shortest (shape w) ≤ end → words (shape w) end (fresh (shape w) end) ≡ before_heads w end ++ (all_heads w ++ after_heads w end)
unfolding words fixed_low fixed_high first_free block_words head_words head_of own size_of before_heads after_heads free_words
fresh_words {w} wd end h =
    rw (append_assoc (all_heads w) (record { at = index_far_tag_at (shape w); is = index_tag (shape w) } ∷ []) (own (shape w) (replicate (shape w).classes []) (start (shape w)) 0 0 (free (end - start (shape w))) ++ [])) refl

pub fresh_drawn : {w : ℕ} → Width w → (b h₁ h₂ h₃ : List ℕ) (end : ℕ) → end ≡ end_of (length b) → shortest (shape w) ≤ length b
    → h₁ ≡ draw w (before_heads w end) (put 8 b 0 (shape w).magic) → h₂ ≡ draw w (all_heads w) h₁ → h₃ ≡ draw w (after_heads w end) h₂
    → h₃ ≡ drawn (shape w) (fresh (shape w) (end_of (length b))) (put 8 b 0 (shape w).magic)
fresh_drawn {w} wd b h₁ h₂ h₃ end e l e₁ e₂ e₃ =
    let c = put 8 b 0 (shape w).magic in
    let k : length c ≡ length b = length_put 8 b 0 (shape w).magic in
    rw (k, ← e, fresh_words wd end (omega (arith, start_eight wd)), draw_append w (before_heads w end) (all_heads w ++ after_heads w end) c, draw_append w (all_heads w) (after_heads w end) (draw w (before_heads w end) c), e₃, e₂, e₁) refl
