-- What the program's promises of its reader and writer rest on.
mod Streams
