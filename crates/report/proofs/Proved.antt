-- The laws that must-fail edits of definitions rest on, and those that cite them; specs/ has the definitions. Assumes nothing.
pub mod Fingerprint
