-- The blocks that a walk from the data area's start has passed, and those that it has before it.
use Rattle.std.proofs.Common.{ℕ, ◌+◌, ◌≤◌, ◌≡◌, refl, sym, ap, subst, ◌∙◌, List, [], ◌∷◌, ◌++◌, append_assoc, append-nil, arith, length}
use Rattle.words.specs.Width.{Width}
use Rattle.model.specs.Shape.{shape, end_of, start}
use Rattle.model.specs.Layout.{Block, Layout, size_of, ends}
use Rattle.model.specs.Sound.{AllAllowed}
use Rattle.model.specs.inner.Laid.{Laid}
use Rattle.model.proofs.blocks.Blocks.{ends_append, le_ends, allowed_left, allowed_right}
use Rattle.model.specs.inner.Walks.{last_free, ends_free, Standing, Passed, Gone}
use Rattle.model.proofs.walks.Standing.{sizes}

pub pass_start : (w : ℕ) (L : Layout) → Passed w L (start (shape w)) [] L.blocks
unfolding ends
pass_start w L = record { blocks = refl; begins = refl }

module _ {w : ℕ} {L : Layout} {p : ℕ} {pre rest : List Block} (s : Passed w L p pre rest) where
  abbrev pub stands : Standing w L p (last_free (shape w) (start (shape w)) pre 0) (ends_free 0 pre)
  stands = record { pre = pre; rest = rest; blocks = s.blocks; begins = s.begins; before = refl; touches = refl }

  -- the walk goes on behind the next block
  pub pass : (x : Block) (after : List Block) → rest ≡ x ∷ after → Passed w L (p + size_of (shape w) x) (pre ++ (x ∷ [])) after
  unfolding ends
  pass x after e =
      record {
        blocks = s.blocks ∙ ap (λ (l : List Block). pre ++ l) e ∙ sym (append_assoc pre (x ∷ []) after);
        begins = ends_append (shape w) (start (shape w)) pre (x ∷ []) ∙ ap (λ (y : ℕ). y + size_of (shape w) x) s.begins;
      }

  module _ (wd : Width w) {b : List ℕ} (h : Laid w b L) where
    pub passed_all : AllAllowed (shape w) (pre ++ rest)
    passed_all = subst (λ (l : List Block). AllAllowed (shape w) l) s.blocks h.tiled.allowed

    pub passed_allowed : AllAllowed (shape w) pre
    passed_allowed = allowed_left (shape w) pre rest passed_all

    passed_fills : ends (shape w) p rest ≡ end_of (length b)
    passed_fills =
        ap (λ (y : ℕ). ends (shape w) y rest) (sym s.begins) ∙ sym (ends_append (shape w) (start (shape w)) pre rest) ∙ ap (λ (l : List Block). ends (shape w) (start (shape w)) l) (sym s.blocks) ∙ h.tiled.fills

    -- at the end all blocks are passed
    pub passed_none : end_of (length b) ≤ p → rest ≡ []
    unfolding AllAllowed ends
    passed_none l = go rest refl (allowed_right (shape w) pre rest passed_all) passed_fills
      where
        go : (r : List Block) → rest ≡ r → AllAllowed (shape w) r → ends (shape w) p r ≡ end_of (length b) → rest ≡ []
        go [] e a f = e
        go (x ∷ r) e a f = absurd (omega (arith, (sizes wd x a.0).0, le_ends (shape w) (p + size_of (shape w) x) r))

    pub passed_end : end_of (length b) ≤ p → L.blocks ≡ pre
    passed_end l = s.blocks ∙ ap (λ (r : List Block). pre ++ r) (passed_none l) ∙ append-nil pre

module _ {A : Type 0} {w : ℕ} (f : List Block → A) where
  pub gone_start : (L : Layout) (v : A) → v ≡ f [] → Gone w f L (start (shape w)) v
  gone_start L v e = record { pre = []; rest = L.blocks; passed = pass_start w L; so_far = e }

  module _ (wd : Width w) {b : List ℕ} {L : Layout} (h : Laid w b L) {p : ℕ} {v : A} (g : Gone w f L p v) where
    pub gone_on : (x : Block) (after : List Block) → g.rest ≡ x ∷ after → (q : ℕ) → size_of (shape w) x ≡ q → (u : A) → u ≡ f (g.pre ++ (x ∷ [])) → Gone w f L (p + q) u
    gone_on x after e q z u k =
        record {
          pre = g.pre ++ (x ∷ []);
          rest = after;
          passed = subst (λ (y : ℕ). Passed w L (p + y) (g.pre ++ (x ∷ [])) after) z (pass g.passed x after e);
          so_far = k;
        }

    pub gone_done : end_of (length b) ≤ p → v ≡ f L.blocks
    gone_done l = g.so_far ∙ ap f (sym (passed_end g.passed wd h l))
