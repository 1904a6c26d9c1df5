-- What a rule keeps of a heap's own bytes it keeps in the buffer.
use Rattle.std.proofs.Common.{ℕ, min, ◌≡◌, sym, ap, subst, ◌∙◌, List, inl, inr, ⊎_elim, arith, length, take}
use Rattle.words.specs.Width.{Width}
use Rattle.model.specs.Shape.{shape, end_of}
use Rattle.model.specs.Layout.{Layout}
use Rattle.model.specs.Sound.{Here}
use Rattle.model.specs.Live.{◌∈◌, Payload, content, live}
use Rattle.model.specs.Calls.{Outcome, in_buffer}
use Rattle.model.specs.Promises.{Kept, OnlyNew, AllocateKept, FreeKept, ResizeKept, SweepKept}
use Rattle.model.proofs.lives.Payloads.{in_area}
use Rattle.model.proofs.pictures.Fronts.{front_content}
use Rattle.model.proofs.rules.Ready.{RunsOn}

module _ {w : ℕ} (wd : Width w) {b : List ℕ} {L : Layout} {c : List ℕ} {M : Layout} (on : RunsOn wd b L c M) (r : Outcome) (N : Layout) (h : Here (shape w) r.heap N) where
  -- what is live, where the rule runs and in the buffer
  there : (x : Payload) → x ∈ live (shape w) L → x ∈ live (shape w) M
  there x i = subst (λ (l : List Payload). x ∈ l) (sym on.lives) i

  back : (x : Payload) → x ∈ live (shape w) M → x ∈ live (shape w) L
  back x i = subst (λ (l : List Payload). x ∈ l) on.lives i

  in_buffer_lem : (x : Payload) → x ∈ live (shape w) N → content (in_buffer b r).heap x ≡ content r.heap x
  in_buffer_lem x i = front_content r.heap b x (omega (arith, (in_area (shape w) (end_of (length r.heap)) N h.valid x i).1))

  kept_in : (x : Payload) → x ∈ live (shape w) L → Kept (shape w) c r.heap N x → Kept (shape w) b (in_buffer b r).heap N x
  kept_in x i k = (k.0, in_buffer_lem x k.0 ∙ k.1 ∙ on.content x i)

  only_in : (a : ℕ) → OnlyNew (shape w) M N a → OnlyNew (shape w) L N a
  only_in a o x i = ⊎_elim (λ j. inl (back x j)) (λ e. inr e) (o x i)

  pub allocate_in : (n : ℕ) → AllocateKept (shape w) c n M r N → AllocateKept (shape w) b n L (in_buffer b r) N
  allocate_in n k = ((λ x i. let y = k.0 x (there x i) in (kept_in x i y.0, y.1)), only_in r.address k.1, k.2)

  pub free_in : (a : ℕ) → FreeKept (shape w) c a M r N → FreeKept (shape w) b a L (in_buffer b r) N
  free_in a k = ((λ x i n. kept_in x i (k.0 x (there x i) n)), (λ x i. let y = k.1 x i in (back x y.0, y.1)))

  pub resize_in : (a n : ℕ) → ResizeKept (shape w) c a n M r N → ResizeKept (shape w) b a n L (in_buffer b r) N
  resize_in a n k = (
    (λ x i o. kept_in x i (k.0 x (there x i) o)),
    only_in r.address k.1,
    (λ x i e.
        let y = k.2 x (there x i) e in
        (y.0, y.1, y.2, y.3, ap (λ (z : List ℕ). take (min x.shown n) z) (in_buffer_lem y.0 y.1) ∙ y.4 ∙ ap (λ (z : List ℕ). take (min x.shown n) z) (on.content x i))),
    k.3,
  )

  pub sweep_in : SweepKept (shape w) c M r N → SweepKept (shape w) b L (in_buffer b r) N
  sweep_in k = (
    k.0 ∙ on.lives,
    (λ x i. in_buffer_lem x (subst (λ (l : List Payload). x ∈ l) (sym (k.0 ∙ on.lives)) i) ∙ k.1 x (there x i) ∙ on.content x i),
  )
