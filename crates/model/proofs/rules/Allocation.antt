-- What an allocation leaves: a valid layout, with one payload more.
use Rattle.std.proofs.Common.{ℕ, ◌≤◌, ◌<◌, ◌≡◌, refl, sym, subst, ◌⊎◌, List, [], ◌∷◌, arith, get_or}
use Rattle.std.proofs.Math.Option.{Option, none, some}
use Rattle.model.specs.Shape.{Shape, tags, largest_item, class_of, need_of, address_of, item_at}
use Rattle.model.specs.Layout.{Layout}
use Rattle.model.specs.Sound.{Valid}
use Rattle.model.specs.Rules.{Made, popped, paged, allocate, spot_at}
use Rattle.model.specs.Live.{◌∈◌, Payload, live}
use Rattle.model.proofs.items.Asked.{within_own, within_capacity, shown_asked}
use Rattle.model.proofs.items.Pop.{pop_valid}
use Rattle.model.proofs.rules.Makings.{Makes, nothing_fits, listed_item, new_page, own_block, makes}
use Rattle.model.proofs.blocks.Taken.{takes_of}
use Rattle.model.proofs.blocks.Placed.{placed_valid}
use Rattle.model.proofs.Sizes.{up_above, need_eight}
use Rattle.model.proofs.items.Paged.{paged_valid}
use Rattle.model.proofs.lives.Lives.{Adds, placed_adds, placed_payload, paged_live}
use Rattle.model.proofs.Good.{Good}
use Rattle.model.proofs.lives.ItemLives.{item_payload, popped_adds}

module _ (S : Shape) (end n : ℕ) where
  -- of n bytes in layout L was made m: a payload that holds them, beside all that was live
  pub record Granted (L : Layout) (m : Made) : Type 0 where
    pub valid : Valid S end m.layout
    pub payload : Payload
    pub at : payload.address ≡ m.at
    pub large : n ≤ payload.size
    pub shown : n ≤ largest_item S → payload.shown ≡ n
    pub adds : Adds S L m.layout payload

  unfoldable Grants : Layout → Option Made → Type 0
  Grants L none = Unit {0}
  Grants L (some m) = Granted L m

  module _ (good : Good S) (some_byte : 1 ≤ n) where
    -- an item of a list
    popped_grants : (c o : ℕ) (os : List ℕ) (L : Layout) → Valid S end L → c < S.classes → class_of n ≡ c → get_or L.lists c [] ≡ o ∷ os → Granted L (record { at = address_of S (item_at S o); layout = popped S n c o os L })
    popped_grants c o os L v cl own e =
        record {
          valid = pop_valid S v cl e n (within_own c n own);
          payload = item_payload S c n (item_at S o);
          at = refl;
          large = within_capacity S c n (within_own c n own);
          shown = λ l. shown_asked S c n some_byte;
          adds = popped_adds S v good n c o os cl e;
        }

    -- what is live before a page is made is what is live with it
    as_before : {L M : Layout} → live S M ≡ live S L → (m : Made) → Granted M m → Granted L m
    as_before e m g =
        record {
          valid = g.valid;
          payload = g.payload;
          at = g.at;
          large = g.large;
          shown = g.shown;
          adds = record {
            kept = λ x h. g.adds.kept x (subst (λ (l : List Payload). x ∈ l) (sym e) h);
            only = λ x h. subst (λ (l : List Payload). (x ∈ l) ⊎ (x ≡ g.payload)) e (g.adds.only x h);
            there = g.adds.there;
            new = λ x h. g.adds.new x (subst (λ (l : List Payload). x ∈ l) (sym e) h);
          };
        }

    made_grants : {L : Layout} {x : Option Made} → Valid S end L → Makes S n L x → Grants L x
    unfolding Grants
    made_grants v nothing_fits = tt
    made_grants {L} v (listed_item i o os e) = popped_grants (class_of n) o os L v (omega (arith, good.offered)) refl e
    made_grants {L} v (new_page i empty t s o os e) =
        let c = class_of n in
        let few : c < S.classes = omega (arith, good.offered) in
        as_before (paged_live S c v s good) _ (popped_grants c o os (paged S c t L) (paged_valid S c (spot_at S t) v s refl good few (good.pages c) empty) few refl e)
    made_grants v (own_block big t s) =
        record {
          valid = placed_valid S v s good (omega (arith, up_above S.offered n big)) (need_eight n (tags S) good.tags);
          payload = placed_payload S v s good;
          at = refl;
          large = omega (arith, (takes_of S (need_of S n) t.size s.large).enough);
          shown = λ l. absurd (omega arith);
          adds = placed_adds S v s good;
        }

    pub allocate_grants : (L : Layout) (m : Made) → Valid S end L → allocate S n L ≡ some m → Granted L m
    unfolding Grants
    allocate_grants L m v e = let g : Grants L (some m) = subst (λ (o : Option Made). Grants L o) e (made_grants v (makes S n L)) in g
