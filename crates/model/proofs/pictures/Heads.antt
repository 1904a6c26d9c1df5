-- A head of 0 says that a class's list is empty.
use Rattle.std.proofs.Common.{◌≤◌, ℕ, ◌+◌, ◌*◌, ◌<◌, ◌≡◌, refl, sym, ap, ◌∙◌, List, [], ◌∷◌, arith, length, get_or}
use Rattle.words.specs.Word.{word_at}
use Rattle.model.specs.Shape.{Shape, start, index}
use Rattle.model.specs.Layout.{Layout, head_of}
use Rattle.model.specs.Sound.{times, idle_items, Here}
use Rattle.model.proofs.Good.{Good}
use Rattle.model.proofs.items.Items.{blocks_range}
use Rattle.model.proofs.items.Pop.{found}
use Rattle.model.proofs.pictures.Shown.{head_read}

module _ (S : Shape) (good : Good S) (b : List ℕ) (L : Layout) (h : Here S b L) (c : ℕ) (cl : c < S.classes) where
  pub empty_list : length b ≤ S.most → word_at S.word b (index S + S.word * c) ≡ 0 → get_or L.lists c [] ≡ []
  unfolding head_of
  empty_list short e = go (get_or L.lists c []) refl
    where
      go : (l : List ℕ) → get_or L.lists c [] ≡ l → get_or L.lists c [] ≡ []
      go [] k = k
      go (o ∷ os) k =
          let z : o ≡ 0 = sym (head_read S b L h c cl ∙ ap head_of k) ∙ e in
          absurd (omega (arith, z, (blocks_range S c (index S + o) (start S) L.blocks (found S good b L h c o os cl k short).there).0))

  pub none_idle : get_or L.lists c [] ≡ [] → (o : ℕ) → times o (idle_items S c (start S) L.blocks) ≡ 0
  unfolding times
  none_idle e o = sym (h.valid.listed c o cl) ∙ ap (λ (l : List ℕ). times o l) e
