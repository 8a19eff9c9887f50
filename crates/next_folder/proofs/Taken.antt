-- Rows of events change no name and no credit window of the members before them, and fixed rows no history: so the members
-- that are read of a crew's text and of a history have that history, whatever is fixed.
use Rattle.std.proofs.Common.{◌≡◌, ℕ, List, [], ◌∷◌, ◌++◌, length, map, Bool, true, false, not, cond, ◌==◌, nat_le, nat_lt, Option, Some, None, Result, Ok, Err, refl, sym, ap, subst, ◌∙◌, slice_index_or}
use Rattle.std.specs.List.{list_all}
use Rattle.std.specs.Prelude.{unwrap_or}
use Rattle.std.specs.Str.{is_utf8}
use Rattle.std.proofs.lemmas.List.{map-append}
use Rattle.crew_files.specs.Crew.{crew_header, crew_row, crew_columns, has_name, member_checked, is_named, new_member}
use Rattle.crew_files.specs.Events.{changed, event_checked, event_columns, event_header, event_row, is_in_order, may_report, part_of, with_event}
use Rattle.crew_files.specs.Files.{crew_file, event_file, file_name, members_of, some_members}
use Rattle.crew_files.specs.Limits.{credit_limit, events_limit, flights_limit, most_credit, most_events, most_flights}
use Rattle.crew_files.specs.declared.part.Part.{Part}
use Rattle.crew_files.specs.declared.part.Part.TheVariants.{History, Fixed}
use Rattle.crew_files.proofs.RowsFrom.{file-keep}
use Rattle.crew_files.proofs.Steps.{bind-value, when-value, unless-value}
use Rattle.duty_calendar.specs.declared.event.Event.{Event}
use Rattle.duty_calendar.specs.declared.horizon.Horizon.{Horizon}
use Rattle.duty_calendar.specs.declared.member.Member.{Member}
use Rattle.field_text.specs.Fields.{minutes_field, name_field}
use Rattle.field_text.specs.Records.{records_of}
use Rattle.field_text.specs.Rows.{in_column, text_row}
use Rattle.field_text.specs.Steps.{◌>>=◌}
use Rattle.field_text.specs.declared.file_fault.FileCode.{FileCode}
use Rattle.field_text.specs.declared.file_fault.FileCode.TheVariants as code
use Rattle.field_text.specs.declared.file_fault.FileFault.{FileFault}
use Rattle.field_text.specs.declared.file_fault.FileName.TheVariants as name
use Rattle.next_month.specs.Heirs.{AreHeirs}
use Rattle.roster_model.specs.declared.problem.Problem.{Problem}
use Rattle.next_folder.specs.Rolled.{IsNextCrew, bare, no_events, past_of}

text_row-value : {A : Type 0} (n : ℕ) (fields : List (List ℕ)) (r : Result A FileCode) (x : A) → text_row n fields r ≡ Ok x → r ≡ Ok x
text_row-value n fields r x h =
    let a = when-value (list_all is_utf8 fields) code.Utf8 (cond (length fields == n) r (Err code.Width)) x h in
    (when-value (length fields == n) code.Width r x a.1).1

-- ---- events

checked-value : (h : Horizon) (part : Part) (e : Event) (m n : Member) → event_checked h part e m ≡ Ok n → with_event part e m ≡ n
checked-value h part e m n c =
    let a = unless-value (not (is_in_order m e)) code.Order _ n c in
    let b = unless-value (not (may_report h part e.report)) code.OutsideMonth _ n a.1 in
    let d = unless-value (nat_lt most_flights (length e.flights)) (code.Limit flights_limit) _ n b.1 in
    let f = unless-value (nat_lt most_credit e.credit) (code.Limit credit_limit) _ n d.1 in
    let g = unless-value (nat_le (most_events part) (length (part_of part m))) (code.Limit (events_limit part)) (Ok (with_event part e m)) n f.1 in
    cc (g.1)

-- what no event of a part changes, no file of that part does
module _ (h : Horizon) (part : Part) (f : Member → Member) (same : (m : Member) (e : Event) → f (with_event part e m) ≡ f m) where
  checked-same : (e : Event) (m n : Member) → event_checked h part e m ≡ Ok n → f n ≡ f m
  checked-same e m n c = ap f (sym (checked-value h part e m n c)) ∙ same m e

  changed-same : (name : List ℕ) (e : Event) (ms ns : List Member) → changed name (event_checked h part e) ms ≡ Ok ns → map f ns ≡ map f ms
  unfolding changed
  changed-same name e [] ns q = cc
  changed-same name e (m ∷ ms) ns q = by (has_name name m) q (λ us r. changed-same name e ms us r)
    where
      by : (b : Bool) → cond b (event_checked h part e m >>= (λ (n : Member). Ok (n ∷ ms))) (changed name (event_checked h part e) ms >>= (λ (us : List Member). Ok (m ∷ us))) ≡ Ok ns
          → ((us : List Member) → changed name (event_checked h part e) ms ≡ Ok us → map f us ≡ map f ms) → map f ns ≡ map f (m ∷ ms)
      by true q rest =
          let a = bind-value (event_checked h part e m) (λ (n : Member). Ok (n ∷ ms)) ns q in
          let is : a.0 ∷ ms ≡ ns = cc (a.2) in
          ap (λ (us : List Member). map f us) (sym is) ∙ ap (λ (x : Member). x ∷ map f ms) (checked-same e m a.0 a.1)
      by false q rest =
          let a = bind-value (changed name (event_checked h part e) ms) (λ (us : List Member). Ok (m ∷ us)) ns q in
          let is : m ∷ a.0 ≡ ns = cc (a.2) in
          ap (λ (us : List Member). map f us) (sym is) ∙ ap (λ (us : List Member). f m ∷ us) (rest a.0 a.1)

  row-same : (ms ns : List Member) (fields : List (List ℕ)) → event_row h part ms fields ≡ Ok ns → map f ns ≡ map f ms
  row-same ms ns fields q =
      let columns = text_row-value 7 fields (event_columns h fields >>= (λ (named : List ℕ × Event). changed named.0 (event_checked h part named.1) ms)) ns q in
      let a = bind-value (event_columns h fields) (λ (named : List ℕ × Event). changed named.0 (event_checked h part named.1) ms) ns columns in
      changed-same a.0.0 a.0.1 ms ns a.2

  pub file-same : (bytes : List ℕ) (ms ns : List Member) → event_file h part bytes ms ≡ Ok ns → map f ns ≡ map f ms
  unfolding event_file
  file-same bytes ms ns q =
      file-keep (file_name part) (event_row h part) (λ (us : List Member). map f us ≡ map f ms) (λ s t r kept step. row-same s t r step ∙ kept) event_header ms ns (records_of bytes) refl q

-- ---- the crew

added-bare : (ms ns : List Member) (n : List ℕ) (l u : ℕ) → map bare ms ≡ ms → member_checked ms n l u ≡ Ok ns → map bare ns ≡ ns
added-bare ms ns n l u kept e =
    let d = unless-value (is_named n ms) code.Duplicate _ ns e in
    let o = unless-value (nat_lt u l) code.Order _ ns d.1 in
    let f = unless-value (nat_le 200 (length ms)) (code.Limit 1) _ ns o.1 in
    let g = unless-value (nat_lt 12000 u) (code.Limit 6) (Ok (ms ++ new_member n l u ∷ [])) ns f.1 in
    let same : ms ++ new_member n l u ∷ [] ≡ ns = cc (g.1) in
    subst (λ (us : List Member). map bare us ≡ us) same (map-append bare ms (new_member n l u ∷ []) ∙ ap (λ (us : List Member). us ++ new_member n l u ∷ []) kept)

crew_row-bare : (ms ns : List Member) (fields : List (List ℕ)) → map bare ms ≡ ms → crew_row ms fields ≡ Ok ns → map bare ns ≡ ns
crew_row-bare ms ns fields kept e =
    let columns = text_row-value 3 fields (crew_columns ms (slice_index_or fields 0 []) (slice_index_or fields 1 []) (slice_index_or fields 2 [])) ns e in
    let a = bind-value (in_column 1 (name_field (slice_index_or fields 0 []))) (λ (n : List ℕ). in_column 2 (minutes_field (slice_index_or fields 1 [])) >>= (λ (l : ℕ). in_column 3 (minutes_field (slice_index_or fields 2 [])) >>= (λ (u : ℕ). member_checked ms n l u))) ns columns in
    let b = bind-value (in_column 2 (minutes_field (slice_index_or fields 1 []))) (λ (l : ℕ). in_column 3 (minutes_field (slice_index_or fields 2 [])) >>= (λ (u : ℕ). member_checked ms a.0 l u)) ns a.2 in
    let c = bind-value (in_column 3 (minutes_field (slice_index_or fields 2 []))) (λ (u : ℕ). member_checked ms a.0 b.0 u) ns b.2 in
    added-bare ms ns a.0 b.0 c.0 kept c.2

crew-bare : (bytes : List ℕ) (ns : List Member) → crew_file bytes [] ≡ Ok ns → map bare ns ≡ ns
unfolding crew_file
crew-bare bytes ns q = file-keep name.Crew crew_row (λ (us : List Member). map bare us ≡ us) crew_row-bare crew_header [] ns (records_of bytes) refl q

-- ---- the three files

record Reads (h : Horizon) (crew history fixed : List ℕ) (list : List Member) : Type 0 where
  named : List Member
  past : List Member
  crew_read : crew_file crew [] ≡ Ok named
  history_read : event_file h History history named ≡ Ok past
  fixed_read : event_file h Fixed fixed past ≡ Ok list
  is_bare : named ≡ map bare list
  is_past : map past_of list ≡ map past_of past

some-same : (ms list : List Member) → some_members ms ≡ Ok list → ms ≡ list
some-same [] list e = cc
some-same (m ∷ ms) list e = cc

reads : (h : Horizon) (crew history fixed : List ℕ) (list : List Member) → members_of h crew history fixed ≡ Ok list → Reads h crew history fixed list
unfolding members_of
reads h crew history fixed list e =
    let a = bind-value (crew_file crew []) (λ (named : List Member). event_file h History history named >>= (λ (past : List Member). event_file h Fixed fixed past >>= some_members)) list e in
    let b = bind-value (event_file h History history a.0) (λ (past : List Member). event_file h Fixed fixed past >>= some_members) list a.2 in
    let c = bind-value (event_file h Fixed fixed b.0) some_members list b.2 in
    let all : event_file h Fixed fixed b.0 ≡ Ok list = c.1 ∙ ap (λ (ms : List Member). Ok ms) (some-same c.0 list c.2) in
    record {
      named = a.0;
      past = b.0;
      crew_read = a.1;
      history_read = b.1;
      fixed_read = all;
      is_bare = sym (file-same h Fixed bare (λ m e. refl) fixed b.0 list all ∙ file-same h History bare (λ m e. refl) history a.0 b.0 b.1 ∙ crew-bare crew a.0 a.1);
      is_past = file-same h Fixed past_of (λ m e. refl) fixed b.0 list all;
    }

ok-same : (r : Result (List Member) FileFault) (a b : List Member) → r ≡ Ok a → r ≡ Ok b → a ≡ b
ok-same (Ok x) a b p q = cc
ok-same (Err e) a b p q = absurd cc

pub heirs-bare : (problem : Problem) (roster : List (List ℕ)) (d : ℕ) (crew heirs : List Member) → AreHeirs problem roster d crew heirs → map bare crew ≡ map bare heirs
heirs-bare problem roster d [] [] h = refl
heirs-bare problem roster d [] (y ∷ ys) h = absurd h
heirs-bare problem roster d (x ∷ xs) [] h = absurd h
heirs-bare problem roster d (x ∷ xs) (y ∷ ys) h =
    ap (λ (ms : List Member). bare x ∷ ms) (heirs-bare problem roster d xs ys h.1) ∙ ap (λ (m : Member). m ∷ map bare ys) (rw (h.0.name, h.0.low, h.0.high) refl)

module _ (h : Horizon) (members crew heirs taken : List Member) (given fixed_given : Option (List ℕ)) (history coming : List ℕ) (text : List ℕ)
    (next : IsNextCrew members h given crew) (alike : map bare crew ≡ map bare heirs)
    (again : members_of h text history coming ≡ Ok heirs) (read : members_of h (unwrap_or given text) history (unwrap_or fixed_given coming) ≡ Ok taken) where
  -- the crew that is there names the same members as the text of the heirs
  named-same : (given : Option (List ℕ)) → IsNextCrew members h given crew → (named other : List Member) → crew_file text [] ≡ Ok named → named ≡ map bare heirs
      → crew_file (unwrap_or given text) [] ≡ Ok other → other ≡ named
  named-same None next named other a is b = ok-same (crew_file text []) other named b a
  named-same (Some there) next named other a is b =
      let r = reads h there no_events no_events crew next in
      ok-same (crew_file there []) other r.named b r.crew_read ∙ r.is_bare ∙ alike ∙ sym is

  both-past : (a : Reads h text history coming heirs) (b : Reads h (unwrap_or given text) history (unwrap_or fixed_given coming) taken) → b.past ≡ a.past
  both-past a b =
      ok-same (event_file h History history b.named) b.past a.past b.history_read
      (ap (λ (ms : List Member). event_file h History history ms) (named-same given next a.named b.named a.crew_read a.is_bare b.crew_read) ∙ a.history_read)

  pub taken-past : map past_of taken ≡ map past_of heirs
  taken-past =
      let a = reads h text history coming heirs again in
      let b = reads h (unwrap_or given text) history (unwrap_or fixed_given coming) taken read in
      b.is_past ∙ ap (λ (ms : List Member). map past_of ms) (both-past a b) ∙ sym a.is_past

  taken-by : (fixed : List ℕ) → fixed ≡ coming → (past : List Member) (a : Reads h text history coming heirs) → past ≡ a.past → event_file h Fixed fixed past ≡ Ok taken → taken ≡ heirs
  taken-by fixed is past a same q =
      ok-same (event_file h Fixed fixed past) taken heirs q
      (ap (λ (t : List ℕ). event_file h Fixed t past) is ∙ ap (λ (ms : List Member). event_file h Fixed coming ms) same ∙ a.fixed_read)

  pub taken-whole : fixed_given ≡ None → taken ≡ heirs
  taken-whole none =
      let a = reads h text history coming heirs again in
      let b = reads h (unwrap_or given text) history (unwrap_or fixed_given coming) taken read in
      taken-by (unwrap_or fixed_given coming) (ap (λ (t : Option (List ℕ)). unwrap_or t coming) none) b.past a (both-past a b) b.fixed_read
