use Rattle.std.proofs.Common.{Bor, List, ℕ, ◌≡◌, ◌∙◌, sym, refl, rules, inl, inr, true, Some, ◌∷◌, [], ap}
use Rattle.std.specs.Result.{is_ok}
use Rattle.csv.specs.Reading.{Reached, default_config, strip_bom, with_flexible}
use Rattle.csv.specs.Records.{fields_of}
use Rattle.csv.specs.declared.parser.State.TheVariants as st
use Rattle.csv.specs.declared.reader.ReaderBuilder.{ReaderBuilder}
use Rattle.csv.proofs.ReadFacts.{rows-end, rows-more}
use Rattle.mesh_model_csv.proofs.seeds.RecordSteps.{records_end}
use Rattle.mesh_model_csv.proofs.seeds.records.records_of.Goals as goal

pub loop-found-init : goal.loop-found-init
unfolding Reached
loop-found-init c =
    let fr = c.from_reader-reader.ensures in
    let e = c.flexible.ensures ∙ ap (λ (b : ReaderBuilder). with_flexible b true) c.has_headers.ensures in
    let start = c.into_iter-found-iterator.ensures.into_iter_gives ∙ refl in
    let rdr = c.into_byte_records-found-items.ensures.rdr in
    let left = c.into_byte_records-found-items.ensures.left in
    rw (start, rdr, c.new-list.ensures.items) (
      rw (e) at fr.trim ∙ c.new.ensures.trim,
      inr (inr (rw e at fr.has_headers, fr.headers)),
      left,
      rw e at fr.config ∙ c.new.ensures.config,
      strip_bom c.args.text.now,
      fr.source,
      (sym fr.state, refl),
    )

pub loop-found-preserved : goal.loop-found-preserved
loop-found-preserved c =
    let inv = c.loop-found.invariant in
    let kept = c.in_ok-put.ensures in
    let s = rw (c.in-Some.is, kept.1) at ((c.next.ensures.steps inv.2 inv.0).0 inv.1) in
    let m = rows-more (λ (s : Bor (List ℕ)). Some s.now) c.loop-found.found-iterator.rdr c.next.new.self.rdr (fields_of kept.0) default_config st.StartRecord (strip_bom c.args.text.now) inv.4 c.loop-found.list.items inv.3 inv.5 inv.6 s.0 in
    (s.0.3 ∙ inv.0, inl s.1, s.2, s.0.2 ∙ inv.3, m.0, m.1, rw kept.2 m.2)

pub returns : goal.returns
returns c =
    let inv = c.loop-found.invariant in
    let s = rw c.in-None.is at ((c.next.ensures.steps inv.2 inv.0).0 inv.1) in
    let ended = rows-end (λ (s : Bor (List ℕ)). Some s.now) c.loop-found.found-iterator.rdr c.next.new.self.rdr [] default_config inv.4 inv.3 inv.5 s in
    c.from_vec.ensures ∙ sym (records_end default_config c.loop-found.found-iterator.rdr.state (strip_bom c.args.text.now) inv.4 c.loop-found.list.items inv.6 ended)
