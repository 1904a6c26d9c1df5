-- The first item of a list is read, and its two words written.
use Rattle.std.proofs.Common.{ℕ, ◌+◌, ◌*◌, ◌≤◌, ◌≡◌, sym, ap, ◌∙◌, List, [], ◌∷◌, arith, length, get_or}
use Rattle.words.specs.Word.{word_at, put, Bytes}
use Rattle.words.proofs.WordLaws.{word_fits}
use Rattle.model.specs.Shape.{shape, index, start, address_of, item_at}
use Rattle.model.specs.Parts.{head_at, held_header, next_in}
use Rattle.model.specs.Layout.{Layout, head_of}
use Rattle.model.specs.Sound.{Here}
use Rattle.model.specs.Rules.{popped}
use Rattle.model.specs.Calls.{drawn}
use Rattle.model.proofs.Good.{shape_good}
use Rattle.model.proofs.blocks.FreeWalk.{here_room}
use Rattle.model.proofs.pictures.Shown.{head_read}
use Rattle.model.proofs.items.Asked.{within_own}
use Rattle.model.proofs.items.Pop.{pop_law}
use Rattle.model.proofs.items.PopReads.{first_item, pop_reads}
use Rattle.items.specs.Items.{HasItem, TookItem}
use Rattle.model.proofs.Sizes.{next_small}

-- an item's header can be read at offset o of bytes b
pub record ItemThere (w : ℕ) (b : List ℕ) (o : ℕ) : Type 0 where
  pub inside : item_at (shape w) o + (8 + 2 * w) ≤ length b

module _ {w : ℕ} {b : List ℕ} {c n : ℕ} (k : HasItem w b c n) where
  pub item_long : start (shape w) ≤ length b
  item_long = here_room (shape w) b k.sound.layout k.sound.here

  module _ (o : ℕ) (eo : o ≡ word_at w b (head_at (shape w) c)) where
    pub item_there : ItemThere w b o
    item_there =
        let f = first_item k.width b k.sound.layout k.sound.here c k.class o eo (λ e. k.some_item (sym eo ∙ e)) in
        let r = pop_reads k.width b k.sound.layout k.sound.here c k.class o f.0 f.1 k.short in
        record { inside = r.inside }

    pub item_taken : (head at x next r : ℕ) (h₁ h₂ : List ℕ) → head ≡ head_at (shape w) c → at ≡ item_at (shape w) o → x ≡ word_at w b at → next ≡ next_in (shape w) x
        → h₁ ≡ put w b head next → h₂ ≡ put w h₁ at (held_header c n) → r ≡ address_of (shape w) at → Bytes b → TookItem w b c n r h₂
    unfolding head_of
    item_taken head at x next r h₁ h₂ eh ea ex en e₁ e₂ er bytes = record { is = λ L o' os h is. go L o' os h is }
      where
        go : (L : Layout) (o' : ℕ) (os : List ℕ) → Here (shape w) b L → get_or L.lists c [] ≡ o' ∷ os → (r ≡ address_of (shape w) (item_at (shape w) o')) × (h₂ ≡ drawn (shape w) (popped (shape w) n c o' os L) b)
        go L o' os h is =
            let same : o ≡ o' = eo ∙ head_read (shape w) b L h c k.class ∙ ap head_of is in
            let p = pop_reads k.width b L h c k.class o' os is k.short in
            let at_is : at ≡ index (shape w) + o' = omega arith in
            let x-is : x ≡ word_at w b (index (shape w) + o') = ex ∙ ap (λ (y : ℕ). word_at w b y) at_is in
            let next_is : next ≡ head_of os = en ∙ ap (next_in (shape w)) x-is ∙ p.next in (
              omega arith,
              rw (e₂, e₁, eh, at_is, next_is)
                  (pop_law (shape w) (shape_good k.width) b L h c o' os k.class is k.short n (within_own c n k.own) bytes (omega (arith, p.next, next_small k.width (word_at w b (index (shape w) + o')), word_fits w b (index (shape w) + o') bytes))),
            )
