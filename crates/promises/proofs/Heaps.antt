-- What a rule leaves of a heap's own bytes: what the rules say of its layout, and that layout is the bytes'.
use Rattle.std.proofs.Common.{ℕ, ◌<◌, ◌≡◌, refl, sym, ap, ◌∙◌, List, arith, length, get_or}
use Rattle.words.specs.Width.{Width}
use Rattle.words.specs.Word.{Bytes}
use Rattle.model.specs.Shape.{shape, end_of}
use Rattle.model.specs.Parts.{magic_bytes}
use Rattle.model.specs.Layout.{Layout, words}
use Rattle.model.specs.Sound.{Valid, Here}
use Rattle.model.specs.Rules.{Found, find, freed}
use Rattle.model.specs.Sweeping.{empties}
use Rattle.model.specs.Calls.{Outcome, granted, Lent, drawn, swept_all}
use Rattle.model.proofs.Good.{shape_good}
use Rattle.model.proofs.pictures.Pictures.{length_draw, bytes_draw}
use Rattle.model.proofs.pictures.Drawn.{tiled, magic_stays, drawn_here, drawn_same}
use Rattle.model.proofs.lives.LiveFound.{is_there}
use Rattle.model.proofs.lives.FreeLives.{freed_removes}
use Rattle.model.proofs.rules.OnLayouts.{Done, grant, swept_layout}
use Rattle.model.proofs.sweeps.Stages.{swept_length, swept_here, swept_bytes_lem, swept_still, swept_magic}

module _ {w : ℕ} (wd : Width w) where
  -- an outcome is what was done on the layout; where that stays, so does every byte; and the magic number stays
  pub record Does (b : List ℕ) (L : Layout) (r : Outcome) (d : Done) : Type 0 where
    pub refusal : r.refusal ≡ d.refusal
    pub address : r.address ≡ d.address
    pub same : length r.heap ≡ length b
    pub here : Here (shape w) r.heap d.layout
    pub bytes : Bytes b → Bytes r.heap
    pub still : d.layout ≡ L → Bytes b → r.heap ≡ b
    pub magic : (i : ℕ) → i < magic_bytes → get_or r.heap i 0 ≡ get_or b i 0

  module _ (b : List ℕ) (L : Layout) (l : Lent (shape w) b) (h : Here (shape w) b L) where
    -- a valid layout drawn is the heap's
    pub draws : (M : Layout) → Valid (shape w) (end_of (length b)) M → Here (shape w) (drawn (shape w) M b) M
    draws M v = drawn_here (shape w) (shape_good wd) b M h.magic v (omega (arith, l.1))

    pub drawn_length : (M : Layout) → length (drawn (shape w) M b) ≡ length b
    drawn_length M = length_draw w (words (shape w) (end_of (length b)) M) b

    pub drawn_bytes : (M : Layout) → Bytes b → Bytes (drawn (shape w) M b)
    drawn_bytes M = bytes_draw w (words (shape w) (end_of (length b)) M) b

    pub drawn_magic : (M : Layout) → Valid (shape w) (end_of (length b)) M → (i : ℕ) → i < magic_bytes → get_or (drawn (shape w) M b) i 0 ≡ get_or b i 0
    drawn_magic M v i k = magic_stays (shape w) (shape_good wd) b M (tiled (shape w) v) l.1 i k

    -- the heap's own layout drawn changes nothing
    pub redrawn : (M : Layout) → M ≡ L → Bytes b → drawn (shape w) M b ≡ b
    redrawn M e k = ap (λ (N : Layout). drawn (shape w) N b) e ∙ sym (drawn_same (shape w) b L h k)

    -- what is done where a valid layout is drawn
    pub drew : (a : ℕ) (M : Layout) → Valid (shape w) (end_of (length b)) M → Does b L (granted a (drawn (shape w) M b)) (record { refusal = 0; address = a; layout = M })
    drew a M v = record { refusal = refl; address = refl; same = drawn_length M; here = draws M v; bytes = drawn_bytes M; still = redrawn M; magic = drawn_magic M v }

    pub freed_valid : (a : ℕ) (f : Found) → find (shape w) a L ≡ f → is_there f ≡ 1 → Valid (shape w) (end_of (length b)) (freed (shape w) f L)
    freed_valid a f e i = (freed_removes (shape w) (shape_good wd) h.valid a f e (λ n. omega (arith, i, ap is_there n))).valid

    pub sweeping_done : Does b L (swept_all (shape w) b L) (grant (empties L.blocks) (swept_layout (shape w) L))
    sweeping_done =
        record { refusal = refl; address = refl; same = swept_length wd b L h l.1; here = swept_here wd b L h l.1; bytes = swept_bytes_lem wd b L h l.1; still = swept_still wd b L h l.1; magic = swept_magic wd b L h l.1 }
