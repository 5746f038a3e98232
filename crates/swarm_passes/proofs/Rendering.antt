-- Frames of a pass: begun, printed and ended.
use Rattle.std.proofs.Common.{◌≡◌, ℕ, zero, suc, ◌<◌, ◌==◌, Bool, true, false, Option, Some, List, [], ◌∷◌, ◌++◌, map, length, slice_index_or, refl, sym, ap, ◌∙◌, subst, arith, append-nil, append_assoc}
use Rattle.std.proofs.lemmas.Bool.{cond-true, eq-eqb, false≢true}
use Rattle.std.proofs.lemmas.List.{map-append, length-map}
use Rattle.mesh_model.specs.Mesh.{mesh}
use Rattle.plan_laws.specs.Drawn.{ActivesAreAsMany}
use Rattle.plan_holds.specs.Laws.{HistoriesGoOn}
use Rattle.plan_model.specs.States.{State, Level, Pass, OpenFrame, pass_at, frame_of, finest_at, filled_regions}
use Rattle.plan_model.specs.Steps.{step, next_frame}
use Rattle.plan_model.specs.declared.events.Event.TheVariants.{Begin, End}
use Rattle.plan_model.specs.declared.events.Answer.{Answer}
use Rattle.plan_model.specs.declared.events.Answer.TheVariants.{Frame, Closed}
use Rattle.plan_model.specs.declared.events.Entry.{Entry}
use Rattle.plan_model.specs.declared.events.Work.TheVariants.{Free}
use Rattle.gate_rule.specs.Flags.{flag}
use Rattle.clip_gate.specs.Passes.{PassView, ClipView, part_of}
use Rattle.clip_gate.specs.Calls.{HasMade, IsFull}
use Rattle.swarm_laws.specs.Runs.{IsApt}
use Rattle.swarm_laws.specs.Shares.{Share, both_shares, no_share, begins_share, DoAll}
use Rattle.swarm_laws.specs.Closings.{Closing, closed_by, closings_of}
use Rattle.swarm_laws.specs.Turns.{IsAfterBegin}
use Rattle.swarm_laws.proofs.Adding.{IsWithin, all_bound}
use Rattle.swarm_laws.proofs.Blocks.{Ends, two_orderly, next_here, frame_all, begin_less}
use Rattle.swarm_laws.proofs.Turns.{begin_of_free, end_of_frame}
use Rattle.swarm_passes.specs.Frames.{FrameView, printed, shown}
use Rattle.swarm_passes.specs.Going.{own_of, closed_of}
use Rattle.swarm_passes.specs.Drawing.{HasOpen, Waits, HasEnded, Renders}
use Rattle.swarm_passes.proofs.Since.{Makes, made_makes}
use Rattle.swarm_passes.proofs.Events.{same_then, goes_none, goes_then, goes_within, full_goes, one_goes, closes_nothing, many_levels}

-- ---- the end
low_frame : (ps : List Pass) (p : ℕ) (f : OpenFrame) → frame_of (slice_index_or ps p Free) ≡ Some f → p < length ps
low_frame [] p f some = absurd (cc)
low_frame (w ∷ ps) zero f some = omega arith
low_frame (w ∷ ps) (suc p) f some = let so = low_frame ps p f some in omega arith

closes_frame : (p : ℕ) (f : OpenFrame) → closings_of p (closed_by End p (Some f)) ≡ record { pass = p; frame = f } ∷ []
closes_frame p f = cond-true (p == p) (record { pass = p; frame = f } ∷ []) [] (eq-eqb p p refl)

pub ended_by : (answer : Answer) (asked : ℕ) (f : OpenFrame) (old new : PassView) → flag old.numbers old.number ≡ true → HasOpen old f → HasMade End answer asked old new → HasEnded f old new
ended_by answer asked f old new mine has made =
    let m = made_makes End answer asked old new mine made in
    let is : frame_of (pass_at m.state old.number) ≡ Some f = ap frame_of m.found ∙ has in
    let e = end_of_frame m.state old.number f (low_frame m.state.passes old.number f is) is in
    let told : answer ≡ Closed f.number = sym m.answered ∙ e.1 in
    record {
      same = m.same;
      free = m.part ∙ e.0;
      own = m.own ∙ ap (λ (a : Answer). own_of old ++ record { pass = old.number; event = End; answer = a } ∷ []) told;
      closes = m.closes ∙ ap (λ (o : Option OpenFrame). closed_of old ++ closings_of old.number (closed_by End old.number o)) has ∙ ap (λ (xs : List Closing). closed_of old ++ xs) (closes_frame old.number f);
    }

-- ---- a beginning
pub after_begin : (answer : Answer) (old new : PassView) → old.number < 16 → part_of old ≡ Free → (m : Makes Begin answer old new) → IsAfterBegin m.state (part_of new) answer
after_begin answer old new low free m =
    let there : old.number < length m.state.passes = subst (λ (n : ℕ). old.number < n) (sym m.many) low in
    subst (λ (a : Answer). IsAfterBegin m.state (part_of new) a) m.answered
    (subst (λ (w : Pass). IsAfterBegin m.state w (step m.state old.number Begin).answer) (sym m.part) (begin_of_free m.state old.number there (m.found ∙ free)))

-- the active regions of a frame that was begun are as many as the levels
same_frame : (a b : OpenFrame) → Some a ≡ Some b → a ≡ b
same_frame a b e = cc

pub few_actives : ActivesAreAsMany → HistoriesGoOn → (number : ℕ) (frame : OpenFrame) (old new : PassView) → flag old.numbers old.number ≡ true → old.number < 16 → part_of old ≡ Free → HasMade Begin (Frame number) 2 old new → HasOpen new frame
    → length frame.actives ≡ old.clip.land.levels
few_actives many go number frame old new mine low free made has =
    let m = made_makes Begin (Frame number) 2 old new mine made in
    let is : frame ≡ next_frame m.state = same_frame frame (next_frame m.state) (sym has ∙ after_begin (Frame number) old new low free m) in
    ap (λ (f : OpenFrame). length f.actives) is
    ∙ many m.state.k (finest_at m.state) (filled_regions m.state)
    ∙ length-map m.state.levels (λ (level : Level). level.filled)
    ∙ ap (λ (s : State). length s.levels) m.is ∙ many_levels go old.clip.size old.clip.land.levels m.history

pub frame_goes : (number : ℕ) (frame : OpenFrame) (old mid late new : PassView) (frames frames' : List FrameView) → flag old.numbers old.number ≡ true → part_of old ≡ Free → HasMade Begin (Frame number) 2 old mid → Waits mid late → HasEnded frame late new
    → frames' ≡ frames ++ printed frame (mesh old.clip.land.terrain old.clip.size frame.actives) ∷ [] → Renders (begins_share 1) false old new frames frames'
frame_goes number frame old mid late new frames frames' mine free made w ended prints =
    let m = made_makes Begin (Frame number) 2 old mid mine made in
    let e : Entry = record { pass = old.number; event = Begin; answer = Frame number } in
    let d : Entry = record { pass = late.number; event = End; answer = Closed frame.number } in
    let all : DoAll (begins_share 1) (record { pass = old.number; event = Begin; answer = Frame number } ∷ record { pass = late.number; event = End; answer = Closed frame.number } ∷ []) = frame_all old.number late.number number frame.number in
    record {
      closed = record { pass = late.number; frame = frame } ∷ [];
      goes = record {
        same = same_then old mid new m.same (same_then mid late new w.same ended.same);
        free = ended.free;
        entries = record { pass = old.number; event = Begin; answer = Frame number } ∷ record { pass = late.number; event = End; answer = Closed frame.number } ∷ [];
        own = ended.own ∙ ap (λ (xs : List Entry). xs ++ d ∷ []) (w.own ∙ m.own) ∙ append_assoc (own_of old) (e ∷ []) (d ∷ []);
        closes = ended.closes ∙ ap (λ (xs : List Closing). xs ++ record { pass = late.number; frame = frame } ∷ []) (w.closes ∙ closes_nothing Begin (Frame number) old mid free m ∙ append-nil (closed_of old));
        orderly = two_orderly e d tt (next_here old.number d (w.same.number ∙ m.same.number) refl) tt (λ _ _. tt);
        bound = all_bound (begins_share 1) (record { pass = old.number; event = Begin; answer = Frame number } ∷ record { pass = late.number; event = End; answer = Closed frame.number } ∷ []) all;
        all = λ _. all;
        less = λ x. absurd (false≢true x);
        long = λ x. absurd (false≢true x);
      };
      prints = prints;
    }

-- a beginning that is refused by the book, and one that finds the journal full
pub held_goes : (level : ℕ) (answer : Answer) (old new : PassView) (frames frames' : List FrameView) → flag old.numbers old.number ≡ true → part_of old ≡ Free → HasMade Begin answer 2 old new → part_of new ≡ Free → IsApt Begin answer → Ends answer
    → DoAll (begins_share 1) (record { pass = old.number; event = Begin; answer = answer } ∷ []) → frames' ≡ frames → Renders (begins_share 1) false old new frames frames'
held_goes level answer old new frames frames' mine free made free' apt ends all same = record {
  closed = [];
  goes = one_goes (begins_share 1) Begin answer old new free (made_makes Begin answer 2 old new mine made) free' apt ends all;
  prints = same ∙ sym (append-nil frames);
}

pub full_renders : (old new : PassView) (frames frames' : List FrameView) → flag old.numbers old.number ≡ true → part_of old ≡ Free → IsFull 2 old new → frames' ≡ frames → Renders (begins_share 1) true old new frames frames'
full_renders old new frames frames' mine free f same = record {
  closed = [];
  goes = full_goes (begins_share 1) 2 old new mine free (omega arith) begin_less f;
  prints = same ∙ sym (append-nil frames);
}

-- ---- one after another
pub renders_none : (a : PassView) (frames : List FrameView) → part_of a ≡ Free → Renders no_share false a a frames frames
renders_none a frames free = record { closed = []; goes = goes_none a free; prints = sym (append-nil frames) }

pub renders_then : (s t : Share) (full : Bool) (a b c : PassView) (xs ys zs : List FrameView) → Renders s false a b xs ys → Renders t full b c ys zs → Renders (both_shares s t) full a c xs zs
renders_then s t full a b c xs ys zs g h =
    let f = shown a.clip.land.terrain a.clip.size in
    record {
      closed = g.closed ++ h.closed;
      goes = goes_then s t full g.closed h.closed a b c g.goes h.goes;
      prints = h.prints ∙ ap (λ (x : ClipView). ys ++ map (shown x.land.terrain x.size) h.closed) g.goes.same.clip ∙ ap (λ (fs : List FrameView). fs ++ map f h.closed) g.prints
          ∙ append_assoc xs (map f g.closed) (map f h.closed) ∙ ap (λ (fs : List FrameView). xs ++ fs) (sym (map-append f g.closed h.closed));
    }

pub renders_within : (s t : Share) (a b : PassView) (xs ys : List FrameView) → IsWithin s t → Renders s true a b xs ys → Renders t true a b xs ys
renders_within s t a b xs ys w g = record { closed = g.closed; goes = goes_within s t g.closed a b w g.goes; prints = g.prints }
