-- Bytes that pass the tests are a sound heap.
use Rattle.std.proofs.Common.{ℕ, ◌+◌, ◌-◌, ◌≤◌, ◌<◌, ◌≡◌, refl, sym, ap, ◌∙◌, List, [], ◌∷◌, ◌++◌, arith, length, get_or, eq-eqb}
use Rattle.words.specs.Width.{Width}
use Rattle.words.specs.Word.{word_at}
use Rattle.model.specs.Picture.{Shows}
use Rattle.model.specs.Shape.{shape, item_size, end_of, index, start, item_at}
use Rattle.model.specs.Parts.{page_kind, tag_of, free_header, far_tag_at, head_at, first_item_at, index_tag, index_far_tag_at}
use Rattle.model.specs.Layout.{Slot, idle, held, variable, page, Block, free, used, Layout, next_of, use_size, size_of, header, slot_words, use_words, own, block_words, head_words, fixed_low, fixed_high, words}
use Rattle.model.specs.Sound.{times, AllowedUse, Allowed, AllAllowed, idle_slots, idle_in, idle_items, Here, Sound}
use Rattle.model.proofs.pictures.Pictures.{shows_append}
use Rattle.model.proofs.pictures.Drawn.{times_append}
use Rattle.marking.specs.Uses.{Slots, use_kind, Headers}
use Rattle.walking.specs.Onward.{Reads}
use Rattle.visiting.specs.Lists.{Chains}
use Rattle.sound.specs.Told.{Filled, Fixed}
use Rattle.visiting.proofs.Chained.{chain_head, chain_next, chains_at, chains_length}

module _ {w : ℕ} (wd : Width w) (b : List ℕ) (ls : List (List ℕ)) where
  -- the headers of free items are as the lists say
  abbrev Named : ℕ → List ℕ → Type 0
  Named c os = (o : ℕ) → 1 ≤ times o os → word_at w b (item_at (shape w) o) ≡ free_header c (next_of o (get_or ls c []))

  slots_show : (c p : ℕ) (ss : List Slot) → index (shape w) ≤ p → Slots w b c p ss → Named c (idle_slots (shape w) c p ss) → Shows w b (slot_words (shape w) c (get_or ls c []) p ss)
  unfolding Slots slot_words Shows header idle_slots times
  slots_show c p [] h s k = tt
  slots_show c p (idle ∷ ss) h s k =
      let e : index (shape w) + (p - index (shape w)) ≡ p = omega arith in
      (ap (λ (x : ℕ). word_at w b x) (sym e) ∙ k (p - index (shape w)) (rw (eq-eqb (p - index (shape w)) (p - index (shape w)) refl) (omega arith)), slots_show c (p + item_size (shape w) c) ss (omega arith) s.1 (λ o l. k o (omega arith)))
  slots_show c p (held n ∷ ss) h s k = (s.0, slots_show c (p + item_size (shape w) c) ss (omega arith) s.1 k)

  blocks_show : (p prev : ℕ) (bs : List Block) → index (shape w) ≤ p → AllAllowed (shape w) bs → Reads w b p prev bs → ((c : ℕ) → c < (shape w).classes → Named c (idle_items (shape w) c p bs)) → Shows w b (block_words (shape w) ls p prev 0 bs)
  unfolding Reads use_kind Headers block_words own use_words use_size size_of idle_items idle_in AllAllowed Allowed AllowedUse Shows
  blocks_show p prev [] h a r k = tt
  blocks_show p prev (free s ∷ bs) h a r k = (r.0.0, (r.0.1, (r.0.2, (r.0.3, blocks_show (p + s) p bs (omega arith) a.1 r.1 k))))
  blocks_show p prev (used (variable s) ∷ bs) h a r k = (r.0.0, (r.0.1, blocks_show (p + use_size (shape w) (variable s)) prev bs (omega arith) a.1 r.1 k))
  blocks_show p prev (used (page d k ss) ∷ bs) h a r l =
      let z = use_size (shape w) (page d k ss) in (
        r.0.0,
        shows_append w b (slot_words (shape w) d (get_or ls d []) (first_item_at (shape w) p) ss ++ record { at = far_tag_at (shape w) p z; is = tag_of z page_kind } ∷ []) (block_words (shape w) ls (p + z) prev 0 bs)
            (shows_append w b (slot_words (shape w) d (get_or ls d []) (first_item_at (shape w) p) ss) (record { at = far_tag_at (shape w) p z; is = tag_of z page_kind } ∷ [])
            (slots_show d (first_item_at (shape w) p) ss (omega arith) r.0.2
            (λ o i. l d a.0.0 o (rw (eq-eqb d d refl) (omega (arith, i, times_append o (idle_slots (shape w) d (first_item_at (shape w) p) ss) (idle_items (shape w) d (p + z) bs))))))
            (r.0.1, tt))
            (blocks_show (p + z) prev bs (omega arith) a.1 r.1 (λ c h o i. l c h o (omega (arith, i, times_append o (idle_in (shape w) c p (used (page d k ss))) (idle_items (shape w) c (p + z) bs))))),
      )

-- the heads of the lists
heads_show : {w : ℕ} → Width w → (b : List ℕ) (end p c : ℕ) (ls : List (List ℕ)) → p ≡ head_at (shape w) c → Chains w b end c ls → Shows w b (head_words (shape w) p ls)
unfolding Chains head_words Shows
heads_show {w} wd b end p c [] e k = tt
heads_show {w} wd b end p c (l ∷ ls) e k = (ap (λ (x : ℕ). word_at w b x) e ∙ chain_head wd b end c (word_at w b (head_at (shape w) c)) l k.1, heads_show wd b end (p + w) (c + 1) ls (omega arith) k.2)

module _ {w : ℕ} (wd : Width w) (b : List ℕ) (x : Fixed w b (end_of (length b))) (k : Filled w b (end_of (length b))) where
  abbrev pub layout : Layout
  layout = record { blocks = k.onward.rest; lists = k.lists }

  pub filled_here : Here (shape w) b layout
  filled_here =
      record {
        magic = x.magic;
        valid = record {
          fills = k.onward.fills;
          allowed = k.onward.allowed;
          apart = k.onward.apart;
          classes = chains_length wd b (end_of (length b)) k.lists k.chains;
          listed = λ c o h. k.same c o h;
        };
        shown = shown;
      }
    where
      show_blocks : Shows w b (block_words (shape w) k.lists (start (shape w)) 0 0 k.onward.rest)
      show_blocks =
          blocks_show wd b k.lists (start (shape w)) 0 k.onward.rest (omega arith) k.onward.allowed k.onward.reads
          (λ c h o i. chain_next wd b (end_of (length b)) c (word_at w b (head_at (shape w) c)) (get_or k.lists c []) (chains_at wd b (end_of (length b)) k.lists k.chains c h) o (rw (k.same c o h) i))

      shown : Shows w b (words (shape w) (end_of (length b)) layout)
      shown = unfold words fixed_low fixed_high Shows in (
        x.data_at_is,
        (
          x.index_at_is,
          (
            sym k.onward.links,
            (
              x.end_at_is,
              (
                x.low_tag,
                shows_append w b (head_words (shape w) (index (shape w)) k.lists ++ record { at = index_far_tag_at (shape w); is = index_tag (shape w) } ∷ []) (block_words (shape w) k.lists (start (shape w)) 0 0 k.onward.rest)
                    (shows_append w b (head_words (shape w) (index (shape w)) k.lists) (record { at = index_far_tag_at (shape w); is = index_tag (shape w) } ∷ [])
                    (heads_show wd b (end_of (length b)) (index (shape w)) 0 k.lists (omega arith) k.chains) (x.high_tag, tt))
                    show_blocks,
              ),
            ),
          ),
        ),
      )

pub sound_of : {w : ℕ} → Width w → (b : List ℕ) → Fixed w b (end_of (length b)) → Filled w b (end_of (length b)) → Sound (shape w) b
sound_of wd b x k = record { layout = layout wd b x k; here = filled_here wd b x k }
