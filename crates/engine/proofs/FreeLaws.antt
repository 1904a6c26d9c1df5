-- Free: what each way through the call shows.
use Rattle.std.proofs.Common.{Some, None, ℕ, sym, ap, ◌∙◌, List}
use Rattle.model.specs.declared.Position.{Position}
use Rattle.model.specs.Shape.{shape}
use Rattle.model.specs.Layout.{Layout}
use Rattle.model.specs.Sound.{Here}
use Rattle.find.specs.declared.UsedBlock.{UsedBlock}
use Rattle.find.specs.declared.Live.TheVariants.{Item, Variable}
use Rattle.find.specs.Find.{Finds}
use Rattle.items.specs.Items.{ItemLive, ItemIn, GaveItem}
use Rattle.items.proofs.GiveLaws.{live_in, gave_draws, gave_sound}
use Rattle.releasing.specs.Release.{BlockLive, BlockIn, GivenBack}
use Rattle.releasing.proofs.ReleaseLaws.{live_used, freed_draws, freed_sound}
use Rattle.engine.specs.Free.{is_found, freed_bytes, GivesBack}
use Rattle.engine.specs.Ready.{Ready}

module _ {w : ℕ} {b : List ℕ} (a : ℕ) (k : Ready w b) where
  pub free_none : ((L : Layout) → Here (shape w) b L → Finds w L a None) → GivesBack w b a None b
  unfolding Finds
  free_none f =
      record {
        answer = λ L h. ap is_found (sym (f L h));
        bytes = λ L h. ap (freed_bytes w b L) (sym (f L h));
        sound = k.sound;
      }

  module _ (q : Position) (c n : ℕ) (f : (L : Layout) → Here (shape w) b L → Finds w L a (Some (Item q c n))) where
    item_live : ItemLive w b q.0 c
    unfolding Finds
    item_live =
        let g = f k.sound.layout k.sound.here in
        record { width = k.width; layout = k.sound.layout; here = k.sound.here; short = k.short; low = g.0; address = a; asked = n; found = g.1 }

    pub item_in : ItemIn w b q.0 c
    item_in = live_in item_live

    pub free_item : {d : List ℕ} → GaveItem w b q.0 c d → GivesBack w b a (Some tt) d
    unfolding Finds
    free_item g =
        record {
          answer = λ L h. ap is_found (sym (f L h).1);
          bytes = λ L h. gave_draws k.width (f L h).0 g L a n h (f L h).1 ∙ ap (freed_bytes w b L) (sym (f L h).1);
          sound = gave_sound item_live g;
        }

  module _ {y : UsedBlock} (f : (L : Layout) → Here (shape w) b L → Finds w L a (Some (Variable y))) where
    block_live : BlockLive w b y
    unfolding Finds
    block_live =
        let g = f k.sound.layout k.sound.here in
        record { width = k.width; layout = k.sound.layout; here = k.sound.here; short = k.short; address = a; spot = g.0; found = g.1 }

    pub block_used : BlockIn w b y
    block_used = live_used block_live

    pub free_block : {d : List ℕ} → GivenBack w b y d → GivesBack w b a (Some tt) d
    unfolding Finds
    free_block g =
        record {
          answer = λ L h. ap is_found (sym (f L h).1.found);
          bytes = λ L h. let v = f L h in freed_draws k.width g L a v.0 h v.1 ∙ ap (freed_bytes w b L) (sym v.1.found);
          sound = freed_sound block_live g;
        }
