-- A record moves: room is allocated, its bytes are copied there, and the old place is given back.
use Rattle.std.proofs.Common.{ℕ, ◌≤◌, min, ◌≡◌, refl, sym, ap, subst, ◌∙◌, List, inl, inr, ⊎_elim, arith, length, Some, None}
use Rattle.std.proofs.Math.Option.{Option as Given, none, some}
use Rattle.words.specs.Copy.{copied, Room}
use Rattle.model.specs.declared.Address.{Address}
use Rattle.model.specs.Shape.{shape, end_of, start}
use Rattle.model.specs.Layout.{Layout, ends}
use Rattle.model.specs.Sound.{Here}
use Rattle.model.specs.Rules.{Made, find, allocate, capacity}
use Rattle.model.specs.Calls.{drawn}
use Rattle.model.specs.Live.{◌∈◌, live}
use Rattle.model.proofs.Good.{shape_good}
use Rattle.model.proofs.lives.Holding.{find_by, shown_most}
use Rattle.model.proofs.lives.Payloads.{in_area}
use Rattle.model.proofs.rules.Allocation.{Granted, allocate_grants}
use Rattle.model.proofs.lives.Moving.{payload_of, found_live, live_apart, copied_here}
use Rattle.std.proofs.lemmas.Option.{none-some, same_Some}
use Rattle.engine.specs.Allocate.{Asked, taken_of, GivesSize}
use Rattle.moving.specs.Move.{Holding, Carried}

-- what an answer says of the rule
pub taken_none : (o : Given Made) → None ≡ taken_of o → o ≡ none
taken_none none e = refl
taken_none (some m) e = absurd (none-some (record { 0 = m.at }) e)

pub taken_some : (o : Given Made) (x : Address) → Some x ≡ taken_of o → (m : Made) × (o ≡ some m) × (x.0 ≡ m.at)
taken_some none x e = absurd (none-some x (sym e))
taken_some (some m) x e = (m, refl, ap (λ (y : Address). y.0) (same_Some x (record { 0 = m.at }) e))

-- the old place and the new, in a layout of the bytes
module _ {w : ℕ} (b : List ℕ) (a k n : ℕ) (q : Holding w b a k) (s : Asked w n) (L : Layout) (h : Here (shape w) b L) (m : Made) (e : allocate (shape w) n L ≡ some m) where
  grants : Granted (shape w) (end_of (length b)) n L m
  grants = allocate_grants (shape w) (end_of (length b)) n (shape_good q.ready.width) s.some_byte L m h.valid e

  pub old_live : payload_of (shape w) a (find (shape w) a L) ∈ live (shape w) m.layout
  old_live = grants.adds.kept (payload_of (shape w) a (find (shape w) a L)) (found_live (shape w) a (start (shape w)) L.blocks (q.live L h))

  -- no more is shown than it holds
  held_few : k ≤ capacity (shape w) (find (shape w) a L)
  held_few = omega (arith, q.shown L h, shown_most q.ready.width a (ends (shape w) (start (shape w)) L.blocks) (find (shape w) a L) (find_by q.ready.width a (start (shape w)) L.blocks h.valid.allowed))

  pub copy_room : (bytes to j : ℕ) → bytes ≡ length b → to ≡ m.at → j ≡ min k n → Room bytes a to j
  copy_room bytes to j eb et ej =
      let x = in_area (shape w) (end_of (length b)) m.layout grants.valid (payload_of (shape w) a (find (shape w) a L)) old_live in
      let y = in_area (shape w) (end_of (length b)) m.layout grants.valid grants.payload grants.adds.there in
      let few = held_few in
      record {
        source = omega (arith, x.1);
        target = omega (arith, y.1, grants.at, grants.large);
        apart = ⊎_elim (λ z. inl (omega (arith, z, grants.at, grants.large))) (λ z. inr (omega (arith, z, grants.at, grants.large)))
            (live_apart (shape w) (end_of (length b)) m.layout grants.valid (payload_of (shape w) a (find (shape w) a L)) grants.payload old_live grants.adds.there
            (grants.adds.new (payload_of (shape w) a (find (shape w) a L)) (found_live (shape w) a (start (shape w)) L.blocks (q.live L h))));
      }

  pub carried_here : (c : List ℕ) → length c ≡ length b → Here (shape w) c m.layout → (to j : ℕ) → to ≡ m.at → j ≡ min k n → Here (shape w) (copied a to j c) m.layout
  carried_here c ec hc to j et ej =
      let r = copy_room (length c) to j ec et ej in
      let p : grants.payload.address ≡ to = grants.at ∙ sym et in
      subst (λ (y : ℕ). Here (shape w) (copied a y j c) m.layout) p
      (copied_here (shape w) c m.layout hc grants.payload grants.adds.there a j (omega (arith, grants.large)) r.source)

-- each way through carry
module _ {w : ℕ} {b : List ℕ} {a k n : ℕ} (q : Holding w b a k) (s : Asked w n) {c : List ℕ} where
  pub not_carried : GivesSize w b n None c → Carried w b a k n None c
  not_carried g =
      record {
        is = λ L h.
            let v = g.is L h in
            let o : allocate (shape w) n L ≡ none = taken_none (allocate (shape w) n L) v.answer in
            rw o (record { answer = refl; bytes = rw o at v.bytes; here = rw o at v.here });
      }

  module _ (x : Address) (g : GivesSize w b n (Some x) c) where
    chosen : (L : Layout) → Here (shape w) b L → (m : Made) × (allocate (shape w) n L ≡ some m) × (x.0 ≡ m.at)
    chosen L h = taken_some (allocate (shape w) n L) x (g.is L h).answer

    pub room_to_copy : (bytes j : ℕ) → bytes ≡ length b → j ≡ min k n → Room bytes a x.0 j
    room_to_copy bytes j eb ej =
        let L = q.ready.sound.layout in
        let h = q.ready.sound.here in
        let m = chosen L h in
        copy_room b a k n q s L h m.0 m.1 bytes x.0 j eb m.2 ej

    pub was_carried : length c ≡ length b → (j : ℕ) → j ≡ min k n → (d : List ℕ) → d ≡ copied a x.0 j c → Carried w b a k n (Some x) d
    was_carried ec j ej d ed =
        record {
          is = λ L h.
              let v = g.is L h in
              let m = chosen L h in
              let ec' : c ≡ drawn (shape w) m.0.layout b = rw m.1 at v.bytes in
              let hc : Here (shape w) c m.0.layout = rw m.1 at v.here in
              rw m.1
              (record {
                answer = ap (λ (y : ℕ). Some (record { 0 = y })) m.2;
                bytes = ed ∙ ap (λ (y : ℕ). copied a y j c) m.2 ∙ ap (λ (y : ℕ). copied a m.0.at y c) ej ∙ ap (λ (y : List ℕ). copied a m.0.at (min k n) y) ec';
                here = rw ed (carried_here b a k n q s L h m.0 m.1 c ec hc x.0 j m.2 ej);
              });
        }
