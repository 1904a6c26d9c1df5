-- What each part of the check tells: the fixed words, and blocks and lists, as far as a map goes.
use Rattle.std.specs.Prelude.{ℕ, ◌<◌, ◌≡◌, Bool, List, [], length, get_or, Result, Ok, Err}
use Rattle.words.specs.Word.{word_at}
use Rattle.model.specs.Shape.{shape, index, start, end_of}
use Rattle.model.specs.Parts.{magic_bytes, data_at, index_at, end_at, index_tag, index_tag_at, index_far_tag_at}
use Rattle.telling.specs.Tells.{Tells}
use Rattle.walking.specs.Onward.{Whole}
use Rattle.marking.specs.Maps.{map_end}
use Rattle.walking.specs.declared.Stand.{Stand}
use Rattle.model.specs.Sound.{times, idle_items}
use Rattle.walking.specs.Told.{Halted}
use Rattle.visiting.specs.Lists.{Chains}

-- the fixed words stand in the bytes
pub record Fixed (w : ℕ) (b : List ℕ) (end : ℕ) : Type 0 where
  pub magic : word_at magic_bytes b 0 ≡ (shape w).magic
  pub data_at_is : word_at w b (data_at (shape w)) ≡ start (shape w)
  pub index_at_is : word_at w b (index_at (shape w)) ≡ index (shape w)
  pub end_at_is : word_at w b (end_at (shape w)) ≡ end
  pub low_tag : word_at w b (index_tag_at (shape w)) ≡ index_tag (shape w)
  pub high_tag : word_at w b (index_far_tag_at (shape w)) ≡ index_tag (shape w)

-- blocks fill the data area, and the lists visit every free item of their class once and nothing else
pub record Filled (w : ℕ) (b : List ℕ) (end : ℕ) : Type 0 where
  pub onward : Whole w b end
  pub lists : List (List ℕ)
  pub chains : Chains w b end 0 lists
  pub same : (c x : ℕ) → c < (shape w).classes → times x (get_or lists c []) ≡ times x (idle_items (shape w) c (start (shape w)) onward.rest)

-- blocks and lists, as far as a map goes: whether they are right, or where the walk stands at a page beyond it
pub record FillTold (w : ℕ) (b : List ℕ) (r : Result Bool Stand) (m' : List ℕ) : Type 0 where
  pub is_told : (x : Bool) → r ≡ Ok x → Tells x (Filled w b (end_of (length b)))
  pub is_beyond : (s : Stand) → r ≡ Err s → Halted w b (end_of (length b)) s m' × (map_end w (length m') < end_of (length b))
